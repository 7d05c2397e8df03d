-- The bytes that were there and the tests that led to each return say which case of `len_of` holds.
use borrow.Author.Rules.{rules}
use Rattle.objects.specs.Objects.{len_of, length_after_81, length_after_82}
use Rattle.objects.proofs.len_at.Goals as goal

pub returns-then-len-lt256 : goal.returns-then-len-lt256
unfolding len_of length_after_81 length_after_82
returns-then-len-lt256 c = search rules

pub returns-else-len-lt256 : goal.returns-else-len-lt256
unfolding len_of length_after_81 length_after_82
returns-else-len-lt256 c = search rules

pub returns-in-129 : goal.returns-in-129
unfolding len_of length_after_81 length_after_82
returns-in-129 c = search rules

pub returns-in-0-to-127 : goal.returns-in-0-to-127
unfolding len_of length_after_81 length_after_82
returns-in-0-to-127 c = search rules

pub returns-in_default : goal.returns-in_default
unfolding len_of length_after_81 length_after_82
returns-in_default c = search rules

pub returns-in_default-2 : goal.returns-in_default-2
unfolding len_of length_after_81 length_after_82
returns-in_default-2 c = search rules

pub returns-in_default-3 : goal.returns-in_default-3
unfolding len_of length_after_81 length_after_82
returns-in_default-3 c = search rules

pub returns-in_default-4 : goal.returns-in_default-4
unfolding len_of length_after_81 length_after_82
returns-in_default-4 c = search rules

pub returns-in_default-5 : goal.returns-in_default-5
unfolding len_of length_after_81 length_after_82
returns-in_default-5 c = search rules
