use Rattle.std.proofs.Common.{◌≡◌, ◌++◌, ◌∷◌, ◌∙◌, OnOk, sym, ap, subst}
use Rattle.gx_model.specs.Objects.{hex}
use Rattle.gx_print.specs.Identities.{name_and_email}
use Rattle.gx_print.specs.Logs.{both_dates, named, told_parts}
use Rattle.gx_print.specs.Messages.{subject}
use Rattle.gx_print.proofs.formats.put_told.Goals as goal

pub returns-in-Names : goal.returns-in-Names
returns-in-Names g c =
    let o = c.args.options in
    let called = c.args.commit.now.bytes in
    let parts = c.args.view.now in
    subst (λ t. OnOk c.put_name.result (c.put_name.new.out.items ≡ t)) (ap (λ front. front ++ named o.parents called parts.parents) c.requires.empty ∙ ap (λ f. told_parts f o.parents called parts) (sym c.in-Names.is)) c.put_name.ensures

pub returns-in-Oneline : goal.returns-in-Oneline
returns-in-Oneline g c =
    let o = c.args.options in
    let called = c.args.commit.now.bytes in
    let parts = c.args.view.now in
    subst (λ t. OnOk c.put_oneline.result (c.put_oneline.new.out.items ≡ t)) (ap (λ front. front ++ (hex called ++ 32 ∷ subject parts.text.message)) c.requires.empty ∙ ap (λ f. told_parts f o.parents called parts) (sym c.in-Oneline.is)) c.put_oneline.ensures

pub returns-in-Raw : goal.returns-in-Raw
returns-in-Raw g c =
    let o = c.args.options in
    subst (λ t. OnOk c.put_raw.result (c.put_raw.new.out.items ≡ t)) (ap (λ f. told_parts f o.parents c.args.commit.now.bytes c.args.view.now) (sym c.in-Raw.is)) c.put_raw.ensures

pub returns-in-Subject : goal.returns-in-Subject
returns-in-Subject g c =
    let o = c.args.options in
    subst (λ t. OnOk c.put_subject.result (c.put_subject.new.out.items ≡ t)) ((λ i. c.requires.empty i ++ subject (c.message.ensures i)) ∙ ap (λ f. told_parts f o.parents c.args.commit.now.bytes c.args.view.now) (sym c.in-Subject.is)) c.put_subject.ensures

pub returns-in-Author : goal.returns-in-Author
returns-in-Author g c =
    let o = c.args.options in
    let called = c.args.commit.now.bytes in
    let parts = c.args.view.now in
    subst (λ t. OnOk c.put_author.result (c.put_author.new.out.items ≡ t)) (ap (λ front. front ++ (hex called ++ 32 ∷ name_and_email parts.text.author)) c.requires.empty ∙ ap (λ f. told_parts f o.parents called parts) (sym c.in-Author.is)) c.put_author.ensures

pub returns-in-Dates : goal.returns-in-Dates
returns-in-Dates g c =
    let o = c.args.options in
    let called = c.args.commit.now.bytes in
    let parts = c.args.view.now in
    subst (λ t. OnOk c.put_dates.result (c.put_dates.new.out.items ≡ t)) (ap (λ front. front ++ (hex called ++ 32 ∷ both_dates parts.text)) c.requires.empty ∙ ap (λ f. told_parts f o.parents called parts) (sym c.in-Dates.is)) c.put_dates.ensures
