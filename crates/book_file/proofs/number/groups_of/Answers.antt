use Rattle.std.proofs.Common.{arith}
use Rattle.book_file.proofs.Grouping.{none_so_far, group_pushed, last_pushed}
use Rattle.book_file.proofs.number.groups_of.Goals as goal

pub loop-rest-init : goal.loop-rest-init
loop-rest-init c = none_so_far c.new-groups.result.items c.args.value c.new-groups.ensures (c.requires)

pub loop-rest-preserved : goal.loop-rest-preserved
loop-rest-preserved c = group_pushed c.loop-rest.groups.items c.push.new.self.items _ c.loop-rest.rest c.args.value c.push.ensures.items (omega arith) (omega arith) c.loop-rest.invariant

pub returns : goal.returns
returns c = last_pushed c.loop-rest.groups.items _ c.loop-rest.rest c.args.value c.push-2.ensures.items (omega arith) c.loop-rest.invariant
