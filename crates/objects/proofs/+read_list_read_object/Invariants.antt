-- `read_list` calls `read_object` on the same bytes and itself on fewer, and `read_object` calls `read_list` on fewer: the measure is
-- twice the bytes for `read_object`, and one more for `read_list`.
use Rattle.std.proofs.Common.{◌+◌, length}
use Rattle.objects.proofs.+read_list_read_object.Given as goal

abbrev pub decreases-read_list : goal.decreases-read_list
decreases-read_list l = length l.s.now + length l.s.now + 1

abbrev pub decreases-read_object : goal.decreases-read_object
decreases-read_object l = length l.s.now + length l.s.now
