-- What holds of the definitions: each law is the contract of a public function with an empty body.
pub mod ChangesLaws
pub mod CommandLaws
pub mod ExportLaws
pub mod FeatureLaws
pub mod FileMapLaws
pub mod Headline
pub mod HistoryLaws
pub mod ObjectLaws
pub mod PruningLaws
pub mod RangeLaws
pub mod RefusedReplays
pub mod RepositoryLaws
pub mod ShownRecords
pub mod StoreLaws
pub mod StreamLaws
pub mod TextLaws
