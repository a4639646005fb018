use Rattle.gx_rev.proofs.walking.mark_word.Goals as goal

pub returns-in-WithAncestors-clause-marks : goal.returns-in-WithAncestors-clause-marks
returns-in-WithAncestors-clause-marks g c = rw c.in-WithAncestors.is (c.mark_revision.ensures.included c.args.excluded.now)

pub returns-in-WithoutAncestors-clause-marks : goal.returns-in-WithoutAncestors-clause-marks
returns-in-WithoutAncestors-clause-marks g c = rw c.in-WithoutAncestors.is (c.mark_revision-in-WithoutAncestors.ensures.excluded c.args.included.now)

pub returns-in-Between-clause-marks : goal.returns-in-Between-clause-marks
returns-in-Between-clause-marks g c = rw c.in-Between.is c.mark_between.ensures.marks

pub returns-in-Apart-clause-marks : goal.returns-in-Apart-clause-marks
returns-in-Apart-clause-marks g c = rw c.in-Apart.is c.mark_apart.ensures.marks

pub returns-in-AllParents-clause-marks : goal.returns-in-AllParents-clause-marks
returns-in-AllParents-clause-marks g c = rw c.in-AllParents.is (c.mark_all_parents.ensures c.args.excluded.now)

pub returns-in-Alone-clause-marks : goal.returns-in-Alone-clause-marks
returns-in-Alone-clause-marks g c = rw c.in-Alone.is c.mark_alone.ensures

pub returns-in-WithoutOne-clause-marks : goal.returns-in-WithoutOne-clause-marks
returns-in-WithoutOne-clause-marks g c = rw c.in-WithoutOne.is c.mark_without_one.ensures.marks
