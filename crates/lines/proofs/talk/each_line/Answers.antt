-- `lines::talk::each_line` meets its contract.
use Rattle.std.proofs.Common.{rules, of_calls}
use Rattle.lines.specs.Telling.{untold}
use Rattle.lines.proofs.Tellings.{told_more}
use Rattle.lines.proofs.talk.each_line.Goals as goal

pub loop-feed-init : goal.loop-feed-init
loop-feed-init g c = search (of_calls, untold)

pub loop-feed-preserved-in-Some : goal.loop-feed-preserved-in-Some
loop-feed-preserved-in-Some g c = (search (rules, of_calls), told_more _ _ _ _ _ _ c.in-Some.said c.tell.result c.loop-feed.invariant.1 (search rules) (search rules))
