-- "Status words": the number of each word of document 01's table. Assumes nothing: these are definitions.
use Rattle.std.specs.Prelude.{ℕ, ◌+◌, ◌/◌, ◌%◌, cond, List, [], ◌∷◌, eqb, Option, Some, None, Result, Ok, Err, ok_or}
use Rattle.status.specs.Numbered.{value_at}
use Rattle.status.specs.declared.Word.{Word}
use Rattle.status.specs.declared.Word.TheVariants.{Done, Tries, NotPassed, Length, Lacking, Blocked, Unusable, Moment, Unprotected, Broken, Data, Parameters, NotFound, Instruction, Class, Outside}
use Rattle.status.specs.declared.Unfit.{Unfit}
use Rattle.status.specs.declared.UnknownWord.{UnknownWord}

unfoldable pub word_number : Word → ℕ
-- done
word_number Done = 0x9000
-- PIN chosen with X tries left; or PIN trial lost, X left
word_number (Tries left) = 0x63C0 + left
-- verdict failed or none, or chip key mismatch
word_number NotPassed = 0x6300
-- command or Le of wrong length
word_number Length = 0x6700
-- right lacking
word_number Lacking = 0x6982
-- PIN counter 0, or PUK uses 0
word_number Blocked = 0x6983
-- PIN inactive, or certificate or issuer expired
word_number Unusable = 0x6984
-- wrong moment
word_number Moment = 0x6985
-- plain while a session is open / broken, or protected with none open
word_number Unprotected = 0x6987
word_number Broken = 0x6988
-- bad data, bad P1-P2, name not found
word_number Data = 0x6A80
word_number Parameters = 0x6A86
word_number NotFound = 0x6A88
-- unknown INS, CLA
word_number Instruction = 0x6D00
word_number Class = 0x6E00
-- state outside its limits, or reply buffer under 258 bytes
word_number Outside = 0x6F00

-- the words that tell no tries
abbrev pub words : List Word
words =
    Done
    ∷ NotPassed
    ∷ Length
    ∷ Lacking
    ∷ Blocked
    ∷ Unusable
    ∷ Moment
    ∷ Unprotected
    ∷ Broken
    ∷ Data
    ∷ Parameters
    ∷ NotFound
    ∷ Instruction
    ∷ Class
    ∷ Outside
    ∷ []

-- the way back: 63CX tells X tries, the others their own number
unfoldable pub word_at : ℕ → Option Word
word_at n = cond (eqb (n / 16) 0x63C) (Some (Tries (n % 16))) (value_at word_number Some words n None)

-- the same, with an error that names the number that no word has
abbrev pub word_read : ℕ → Result Word UnknownWord
word_read n = ok_or (word_at n) (record { 0 = n })

-- "refuses .. with 6A80": a personalisation, and a body that is read alone
abbrev pub intake_word : {T : Type 0} → Result T Unfit → Word
intake_word (Ok taken) = Done
intake_word (Err unfit) = Data
