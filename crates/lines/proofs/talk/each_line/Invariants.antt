-- It ends: the turns that are left fall. The lines until now made the desk.
use Rattle.lines.specs.Telling.{Told}
use Rattle.lines.proofs.talk.each_line.Given as goal

abbrev pub invariant-loop-feed : goal.invariant-loop-feed
invariant-loop-feed g l = goal.F-IsAlwaysCallable g l.tell × Told (goal.F-step g) l.fn.tell l.tell l.desk

abbrev pub decreases-loop-feed : goal.decreases-loop-feed
decreases-loop-feed g l = l.feed.turns
