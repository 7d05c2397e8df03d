-- Announce: "80 (04 00 7F 00 07 02 02 02 02 03), 83 the chain's terminal .., optional 67, 91 compressed key (1 to 66 bytes)". Each
-- `..Then` takes one object and hands the rest to the one that stands above it: read from `announce_of` upwards.
-- Assumes nothing: these are definitions.
use Rattle.std.specs.Prelude.{ℕ, List, true, false, drop, Option, Some, None}
use Rattle.objects.specs.Objects.{found_in}
use Rattle.objects.specs.Chain.{taken}
use Rattle.objects.specs.declared.Content.{Content}
use Rattle.names.specs.Names.{is_name, name_of}
use Rattle.keys.specs.Keys.{is_key, key_of}
use Rattle.bodies.specs.Body.{ta_mechanism}
use Rattle.names.specs.declared.Name.{Name}
use Rattle.taking.specs.Taking.{reading, lastly, is_all}
use Rattle.fields.specs.Given.{announcing}
use Rattle.fields.specs.declared.given.Given.{Given}

-- 91 compressed key (1 to 66 bytes)
unfoldable pub key_then : Name → List ℕ → ℕ → Option Given
key_then name s = lastly None 0x91 false is_key s (λ c. Some (announcing name (key_of c)))

-- optional 67, unjudged; the reading has it well-formed: what follows it, or what stands here
abbrev pub past_auxiliary : List ℕ → Option Content → List ℕ
past_auxiliary s None = s
past_auxiliary s (Some c) = drop c.end s

unfoldable pub auxiliary_then : Name → List ℕ → ℕ → Option Given
auxiliary_then name s = key_then name (past_auxiliary s (found_in 0x67 true s))

-- 83 name
unfoldable pub terminal_then : List ℕ → ℕ → Option Given
terminal_then s = taken None 0x83 false is_name s (λ c e. auxiliary_then (name_of c))

-- 80
unfoldable pub protocol_then : List ℕ → ℕ → Option Given
protocol_then s = taken None 0x80 false (is_all ta_mechanism) s (λ c e. terminal_then)

unfoldable pub announce_of : List ℕ → Option Given
announce_of s = reading None s (protocol_then s)
