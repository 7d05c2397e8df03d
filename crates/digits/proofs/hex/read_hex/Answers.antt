-- A word that is not hex is not read, nor one that is too long; of any other all bytes are laid.
use Rattle.std.proofs.Common.{sym, ◌∙◌}
use Rattle.digits.proofs.Pairs.{word-bad, word-large, word_read}
use Rattle.digits.proofs.hex.read_hex.Goals as goal
use Rattle.digits.proofs.hex.read_hex.Goals.{then-not-is_hex-via-then-not-is_hex, then-not-is_hex-via-else-not-is_hex+then-out-n}

pub returns-then-not-is_hex : goal.returns-then-not-is_hex
returns-then-not-is_hex c =
    elim c.then-not-is_hex.branch [
      | then-not-is_hex-via-then-not-is_hex w ↦ word-bad _ _ (sym c.is_hex.ensures ∙ w.if-not-is_hex.true)
      | then-not-is_hex-via-else-not-is_hex+then-out-n w ↦ word-large _ _ w.if-out-n.true
    ]

pub returns : goal.returns
returns c = word_read _ _ (sym c.is_hex.ensures ∙ c.if-not-is_hex.false) c.if-out-n.false _ c.lay_bytes.ensures
