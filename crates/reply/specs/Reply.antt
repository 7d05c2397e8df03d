-- The bytes of a reply. Assumes nothing: these are definitions.
use Rattle.std.specs.Prelude.{ℕ, Bool, true, false, cond, List, [], ◌++◌, ltb, length, take, drop, Option, Some, None}
use Rattle.strings.specs.Bytes.{longest}
use Rattle.names.specs.Names.{name_bytes}
use Rattle.names.specs.declared.Name.{Name}
use Rattle.names.specs.declared.Listed.{Listed}
use Rattle.headers.specs.Encode.{object}
use Rattle.reply.specs.Bytes.{word_bytes}
use Rattle.reply.specs.declared.Layout.{Layout}
use Rattle.reply.specs.declared.Layout.TheVariants.{Silent, Bare, Flat, Nest, Confirmed, Pair}

abbrev pub room : ℕ
room = 258

-- "reply buffer under 258 bytes"
abbrev pub short : (size : ℕ) → Bool
short size = ltb size room

-- the nonce's bytes in the chip key's "nonce and token together (16)"
abbrev pub nonce : ℕ
nonce = 8

-- "87 newest trust point name, 88 the previous if held": which of them there are, `trust` says
abbrev pub second_name : Option Name → List ℕ
second_name None = []
second_name (Some n) = object 0x88 (name_bytes n)

abbrev pub listed_names : Listed → List ℕ
listed_names listed = object 0x87 (name_bytes listed.first) ++ second_name listed.second

-- the chip key's "81, 82": the nonce, then the token
abbrev pub nonce_token : List ℕ → List ℕ
nonce_token first = object 0x81 (take nonce first) ++ object 0x82 (drop nonce first)

-- the data: "Refusals have no data"; a challenge's is "eight bytes"; "Reply 7C holding 80, 82, 84 (1 to 140 bytes), 86 (8): the
-- first string. The fourth adds" the names; the chip key: "Reply 7C holding 81, 82"
unfoldable pub data_of : Layout → (first : List ℕ) → Listed → List ℕ
data_of Silent first listed = []
data_of Bare first listed = []
data_of Flat first listed = first
data_of (Nest tag) first listed = object 0x7C (object tag first)
data_of Confirmed first listed = object 0x7C (object 0x86 first ++ listed_names listed)
data_of Pair first listed = object 0x7C (nonce_token first)

-- whether the word is kept back, too
abbrev pub silent : Layout → Bool
silent Silent = true
silent Bare = false
silent Flat = false
silent (Nest tag) = false
silent Confirmed = false
silent Pair = false

-- 6F00: "nothing written, length 0". "All others write their data, then the two word bytes". `size` is the buffer's
-- no job lets a first string over 140 through; it is answered with nothing, so that 258 bytes are always enough
unfoldable pub reply_of : (size : ℕ) → Layout → (word : ℕ) (first : List ℕ) → Listed → List ℕ
reply_of size layout word first listed =
    cond (short size) []
    (cond (ltb longest (length first)) []
    (cond (silent layout) []
    (data_of layout first listed ++ word_bytes word)))
