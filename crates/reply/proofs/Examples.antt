-- Document 01's whole reply to step four, and others, computed from the definition. Assumes nothing.
use Prim.Native.Nat.{ℕ}
use mathlib.Core.Path.{◌≡◌, refl}
use Rattle.std.specs.Prelude.{Option, Some, None}
use mathlib.Core.List.{List, [], ◌∷◌}
use lib.ListN.{take, replicate}
use Rattle.strings.specs.Bytes.{copied_into}
use Rattle.names.specs.Names.{name_of, no_name}
use Rattle.names.specs.declared.Name.{Name}
use Rattle.names.specs.declared.Listed.{Listed}
use Rattle.reply.specs.declared.Layout.TheVariants.{Silent, Nest, Confirmed, Pair}
use Rattle.headers.specs.Encode.{tag_bytes, length_bytes, header, object}
use Rattle.reply.specs.Reply.{room, data_of, reply_of}

-- UTCVCAAT00002 and UTCVCAAT00001
abbrev newest : Name
newest = name_of (0x55 ∷ 0x54 ∷ 0x43 ∷ 0x56 ∷ 0x43 ∷ 0x41 ∷ 0x41 ∷ 0x54 ∷ 0x30 ∷ 0x30 ∷ 0x30 ∷ 0x30 ∷ 0x32 ∷ [])

abbrev previous : Name
previous = name_of (0x55 ∷ 0x54 ∷ 0x43 ∷ 0x56 ∷ 0x43 ∷ 0x41 ∷ 0x41 ∷ 0x54 ∷ 0x30 ∷ 0x30 ∷ 0x30 ∷ 0x30 ∷ 0x31 ∷ [])

abbrev listing : Name → Option Name → Listed
listing first second = record { first = first; second = second }

abbrev token : List ℕ
token = 0x11 ∷ 0x22 ∷ 0x33 ∷ 0x44 ∷ 0x55 ∷ 0x66 ∷ 0x77 ∷ 0x88 ∷ []

pub step-four : reply_of room Confirmed 0x9000 token (listing newest (Some previous))
    ≡ 0x7C ∷ 0x28 ∷ 0x86 ∷ 0x08 ∷ 0x11 ∷ 0x22 ∷ 0x33 ∷ 0x44 ∷ 0x55 ∷ 0x66 ∷ 0x77 ∷ 0x88
    ∷ 0x87 ∷ 0x0D ∷ 0x55 ∷ 0x54 ∷ 0x43 ∷ 0x56 ∷ 0x43 ∷ 0x41 ∷ 0x41 ∷ 0x54 ∷ 0x30 ∷ 0x30 ∷ 0x30 ∷ 0x30 ∷ 0x32
    ∷ 0x88 ∷ 0x0D ∷ 0x55 ∷ 0x54 ∷ 0x43 ∷ 0x56 ∷ 0x43 ∷ 0x41 ∷ 0x41 ∷ 0x54 ∷ 0x30 ∷ 0x30 ∷ 0x30 ∷ 0x30 ∷ 0x31 ∷ 0x90 ∷ 0x00 ∷ []
unfolding reply_of data_of object header tag_bytes length_bytes name_of copied_into
step-four = refl

-- no second name
pub one-point : reply_of room Confirmed 0x9000 token (listing newest None)
    ≡ 0x7C ∷ 0x19 ∷ 0x86 ∷ 0x08 ∷ 0x11 ∷ 0x22 ∷ 0x33 ∷ 0x44 ∷ 0x55 ∷ 0x66 ∷ 0x77 ∷ 0x88
    ∷ 0x87 ∷ 0x0D ∷ 0x55 ∷ 0x54 ∷ 0x43 ∷ 0x56 ∷ 0x43 ∷ 0x41 ∷ 0x41 ∷ 0x54 ∷ 0x30 ∷ 0x30 ∷ 0x30 ∷ 0x30 ∷ 0x32 ∷ 0x90 ∷ 0x00 ∷ []
unfolding reply_of data_of object header tag_bytes length_bytes name_of copied_into
one-point = refl

-- the chip key's nonce and token
pub chip-key : reply_of room Pair 0x9000 (1 ∷ 2 ∷ 3 ∷ 4 ∷ 5 ∷ 6 ∷ 7 ∷ 8 ∷ token) (listing no_name None)
    ≡ 0x7C ∷ 0x14 ∷ 0x81 ∷ 0x08 ∷ 1 ∷ 2 ∷ 3 ∷ 4 ∷ 5 ∷ 6 ∷ 7 ∷ 8 ∷ 0x82 ∷ 0x08 ∷ 0x11 ∷ 0x22 ∷ 0x33 ∷ 0x44 ∷ 0x55 ∷ 0x66 ∷ 0x77 ∷ 0x88 ∷ 0x90 ∷ 0x00 ∷ []
unfolding reply_of data_of object header tag_bytes length_bytes
chip-key = refl

-- a string of 140 bytes: both lengths after 81
pub longest : take 6 (reply_of room (Nest 0x80) 0x9000 (replicate 140 7) (listing no_name None)) ≡ 0x7C ∷ 0x81 ∷ 0x8F ∷ 0x80 ∷ 0x81 ∷ 0x8C ∷ []
unfolding reply_of data_of object header tag_bytes length_bytes
longest = refl

pub small-buffer : reply_of 257 Confirmed 0x9000 token (listing newest (Some previous)) ≡ []
unfolding reply_of
small-buffer = refl

pub long-string : reply_of room (Nest 0x80) 0x9000 (replicate 141 7) (listing no_name None) ≡ []
unfolding reply_of
long-string = refl

pub kept_back : reply_of room Silent 0x6F00 [] (listing no_name None) ≡ []
unfolding reply_of
kept_back = refl
