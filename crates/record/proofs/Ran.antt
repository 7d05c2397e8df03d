-- The same of the code: whatever `Token::step` and `Token::reset` hand back is the definition's, so a token that was run step by step
-- answers as the record says. Assumes nothing.
use mathlib.Core.Path.{◌≡◌, refl, sym, ap, subst⁻¹, ◌∙◌}
use mathlib.Core.Bool.{true}
use mathlib.Core.List.{List, [], ◌∷◌}
use Prim.Native.Nat.{ℕ}
use lib.ListN.{length, take, drop}
use lib.Seq.{take_at}
use Rattle.token.specs.declared.state.Token.{Token}
use Rattle.token.specs.Step.{step_of}
use Rattle.record.specs.Entries.{Entry, after, reached}
use Rattle.record.specs.Claim.{record_says, Exactly, Ran, no_more, was-reset, was-stepped, ClaimRan}
use Rattle.record.proofs.Decide.{claim-bytes}

pub ran-reached : {t : Token} {entries : List Entry} {z : Token} → Ran t entries z → z ≡ reached t entries
unfolding after
ran-reached no_more = refl
ran-reached (was-reset {rest = rest} e r) = ran-reached r ∙ ap (λ (u : Token). reached u rest) e
ran-reached (was-stepped {rest = rest} x v r) = ran-reached r ∙ ap (λ (u : Token). reached u rest) v.token

pub code-decides : ClaimRan
code-decides h d a entries z r n x w before after u len v =
    let s : List ℕ = (step_of z x).bytes in
    let e : take len after ≡ s = ap (take len) v.reply.1 ∙ take_at s (drop (length s) before) len (sym v.reply.0) in
    subst⁻¹ (λ (y : List ℕ). Exactly (record_says h d entries n ≡ true) (y ≡ 0x90 ∷ 0x00 ∷ [])) (e ∙ ap (λ (t : Token). (step_of t x).bytes) (ran-reached r)) (claim-bytes h d a entries n x w)
