use Rattle.jobs.specs.Passing.{Passed}
use Rattle.jobs.proofs.passing.pass.Goals as goal

-- What counts of both inputs is what is taken of them.
pub returns : goal.returns
returns c = coe 0 1 (i. Passed (c.taken.ensures i) (c.taken-2.ensures i) c.pass_in.result) c.pass_in.ensures
