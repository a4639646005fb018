use Rattle.gx_ref_filters.proofs.filters.passing_by.Goals as goal

pub returns-in-PointsAt : goal.returns-in-PointsAt
returns-in-PointsAt g c = rw c.in-PointsAt.is c.pointing.ensures

pub returns-in-Contains : goal.returns-in-Contains
returns-in-Contains g c = rw c.in-Contains.is c.containing.ensures

pub returns-in-NoContains : goal.returns-in-NoContains
returns-in-NoContains g c = rw c.in-NoContains.is c.containing-in-NoContains.ensures

pub returns-in-Merged : goal.returns-in-Merged
returns-in-Merged g c = rw c.in-Merged.is c.merged.ensures

pub returns-in-NoMerged : goal.returns-in-NoMerged
returns-in-NoMerged g c = rw c.in-NoMerged.is c.merged-in-NoMerged.ensures
