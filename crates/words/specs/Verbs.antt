-- What a line is: by its first word, and by whether there is a token. Assumes nothing: these are definitions.
use Rattle.std.specs.Prelude.{ℕ, Bool, cond, List, [], ◌∷◌, eqb, ltb, length}
use Rattle.strings.specs.Bytes.{eqbs}
use Rattle.words.specs.Words.{word_at}
use Rattle.words.specs.declared.Act.{Act}
use Rattle.words.specs.declared.Act.TheVariants.{Personalises, Sends, Resets, Tells}
use Rattle.words.specs.declared.Verb.{Verb}
use Rattle.words.specs.declared.Verb.TheVariants.{Silent, Overlong, Unknown, NoToken, Personalise, Reset, Send, Want, Read, Body, State}

-- a line may be up to 8,192 bytes
abbrev pub longest_line : ℕ
longest_line = 8192

-- the first words, as they are written
abbrev pub personalise : List ℕ
personalise = 0x70 ∷ 0x65 ∷ 0x72 ∷ 0x73 ∷ 0x6F ∷ 0x6E ∷ 0x61 ∷ 0x6C ∷ 0x69 ∷ 0x73 ∷ 0x65 ∷ []

abbrev pub reset : List ℕ
reset = 0x72 ∷ 0x65 ∷ 0x73 ∷ 0x65 ∷ 0x74 ∷ []

abbrev pub send : List ℕ
send = 0x73 ∷ 0x65 ∷ 0x6E ∷ 0x64 ∷ []

abbrev pub want : List ℕ
want = 0x77 ∷ 0x61 ∷ 0x6E ∷ 0x74 ∷ []

abbrev pub read : List ℕ
read = 0x72 ∷ 0x65 ∷ 0x61 ∷ 0x64 ∷ []

abbrev pub body : List ℕ
body = 0x62 ∷ 0x6F ∷ 0x64 ∷ 0x79 ∷ []

abbrev pub state : List ℕ
state = 0x73 ∷ 0x74 ∷ 0x61 ∷ 0x74 ∷ 0x65 ∷ []

-- a line about the token
abbrev pub about_token : List ℕ → Verb
about_token w = cond (eqbs w reset) Reset (cond (eqbs w send) Send (cond (eqbs w want) Want (cond (eqbs w read) Read (cond (eqbs w state) State Unknown))))

-- before the first accepted personalisation send, want, read, reset and state answer ? no token
abbrev pub if_held : Bool → Verb → Verb
if_held held Unknown = Unknown
if_held held Reset = cond held Reset NoToken
if_held held Send = cond held Send NoToken
if_held held Want = cond held Want NoToken
if_held held Read = cond held Read NoToken
if_held held State = cond held State NoToken
-- no line about the token is one of these
if_held held Silent = Silent
if_held held Overlong = Overlong
if_held held NoToken = NoToken
if_held held Personalise = Personalise
if_held held Body = Body

abbrev pub named_by : List ℕ → Bool → Verb
named_by w held = cond (eqbs w personalise) Personalise (cond (eqbs w body) Body (if_held held (about_token w)))

-- an empty line, a line that starts with #: nothing
abbrev pub spoken_of : List ℕ → Bool → Verb
spoken_of [] held = Silent
spoken_of (c ∷ s) held = cond (eqb c 0x23) Silent (named_by (word_at 0 (c ∷ s)) held)

unfoldable pub verb_of : List ℕ → Bool → Verb
verb_of line held = cond (ltb longest_line (length line)) Overlong (spoken_of line held)

-- what a line does with the token
abbrev pub act_of : Verb → Act
act_of Personalise = Personalises
act_of Send = Sends
act_of Reset = Resets
-- changes nothing
act_of Want = Tells
act_of Read = Tells
act_of Body = Tells
act_of State = Tells
-- "nothing changes"
act_of Silent = Tells
act_of Overlong = Tells
act_of Unknown = Tells
act_of NoToken = Tells
