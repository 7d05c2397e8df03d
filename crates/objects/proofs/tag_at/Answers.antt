-- The bytes that were there and the tests that led to each return say which case of `tag_of` holds.
use borrow.Author.Rules.{rules}
use Rattle.objects.specs.Objects.{tag_of, second_tag_byte}
use Rattle.objects.proofs.tag_at.Goals as goal

pub returns-in_default : goal.returns-in_default
unfolding tag_of second_tag_byte
returns-in_default c = search rules

pub returns-then-a-ne31 : goal.returns-then-a-ne31
unfolding tag_of second_tag_byte
returns-then-a-ne31 c = search rules

pub returns-in_default-more : goal.returns-in_default-more
unfolding tag_of second_tag_byte
returns-in_default-more c = search rules

pub returns-then-not-contains : goal.returns-then-not-contains
unfolding tag_of second_tag_byte
returns-then-not-contains c = search rules

pub returns : goal.returns
unfolding tag_of second_tag_byte
returns c = search rules
