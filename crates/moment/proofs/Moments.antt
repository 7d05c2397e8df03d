-- The moment of each kind, over plain values. Assumes nothing.
use Prim.Native.Nat.{ℕ}
use mathlib.Core.Bool.{Bool, true, false, not, ◌&&◌, ◌||◌}
use mathlib.Core.Path.{◌≡◌}
use lib.Dec.{leb, eqb}
use Rattle.command.specs.declared.kind.Kind.{Kind}
use Rattle.command.specs.declared.kind.Kind.TheVariants.{ChoosePassword, General, SelectIssuer, VerifyCertificate, Announce, Challenge, ProveTerminal, ChooseChipKey, Read, ChangePin, Unblock, Activate, Deactivate}
use Rattle.run.specs.declared.Choice.{Choice}
use Rattle.run.specs.declared.Step.{Step}
use Rattle.run.specs.Run.{is_last}
use Rattle.standing.specs.declared.Stage.{Stage}
use Rattle.standing.specs.declared.Stage.TheVariants.{Run}
use Rattle.session.specs.declared.Session.{Session}
use Rattle.standing.specs.Standing.{has_rights, has_terminal, is_selected, rank}
use Rattle.moment.specs.Moment.{general_moment, moment_of}

module _ (s : Stage) (ch : Bool) (c : Choice) (p : Step) (l : Bool) (e : s ≡ Run c p) (f : l ≡ is_last p) where
  pub run-fourth : l ≡ true → not ch ≡ general_moment s ch
  run-fourth h = rw (e, ← f, h)

  pub run-earlier : l ≡ false → ch ≡ general_moment s ch
  run-earlier h = rw (e, ← f, h)

module _ (z : Session) (ch : Bool) (x : Kind) where
  pub at-choose : x ≡ ChoosePassword → true ≡ moment_of z x ch
  unfolding moment_of
  at-choose e = rw e

  pub at-general : (b : Bool) → x ≡ General → b ≡ general_moment z.context.stage ch → b ≡ moment_of z x ch
  unfolding moment_of
  at-general b e f = rw e f

  module _ (k : ℕ) (f : k ≡ rank z.context.stage) where
    module _ (b : Bool) (g : b ≡ has_rights z.context.confirmed) where
      pub at-select : x ≡ SelectIssuer → b && (leb 1 k && leb k 3) ≡ moment_of z x ch
      unfolding moment_of
      at-select e = rw (e, g, f)

      pub at-verify : (s : Bool) → x ≡ VerifyCertificate → s ≡ is_selected z.selected → b && (leb 1 k && leb k 3) && s ≡ moment_of z x ch
      unfolding moment_of
      at-verify s e h = rw (e, g, f, h)

    pub at-announce : (u : Bool) → x ≡ Announce → u ≡ has_terminal z.context.chain → u && (leb 1 k && leb k 3) ≡ moment_of z x ch
    unfolding moment_of
    at-announce u e h = rw (e, h, f)

    pub at-challenge : x ≡ Challenge → eqb k 2 || eqb k 3 ≡ moment_of z x ch
    unfolding moment_of
    at-challenge e = rw (e, f)

    pub at-prove : x ≡ ProveTerminal → eqb k 3 ≡ moment_of z x ch
    unfolding moment_of
    at-prove e = rw (e, f)

    pub at-chip : x ≡ ChooseChipKey → eqb k 4 || eqb k 5 ≡ moment_of z x ch
    unfolding moment_of
    at-chip e = rw (e, f)

    pub at_read_lem : (n : ℕ) → x ≡ Read n → leb 1 k ≡ moment_of z x ch
    unfolding moment_of
    at_read_lem n e = rw (e, f)

    pub at-change : x ≡ ChangePin → leb 1 k ≡ moment_of z x ch
    unfolding moment_of
    at-change e = rw (e, f)

    pub at-unblock : x ≡ Unblock → leb 1 k ≡ moment_of z x ch
    unfolding moment_of
    at-unblock e = rw (e, f)

    pub at-activate : x ≡ Activate → leb 1 k ≡ moment_of z x ch
    unfolding moment_of
    at-activate e = rw (e, f)

    pub at-deactivate : x ≡ Deactivate → leb 1 k ≡ moment_of z x ch
    unfolding moment_of
    at-deactivate e = rw (e, f)
