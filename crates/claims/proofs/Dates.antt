-- The cases of W-203 hold of the definitions, each by computing it. Assumes nothing.
use mathlib.Core.Path.{refl}
use Rattle.objects.specs.Objects.{objects_in, objects, objects_of, found_in, header_of, tag_of, second_tag_byte, len_of, length_after_81, length_after_82}
use Rattle.objects.specs.Chain.{taken}
use Rattle.strings.specs.Bytes.{copied_into}
use Rattle.names.specs.Names.{is_name, name_of, name_fits}
use Rattle.keys.specs.Keys.{no_key, key_fits}
use Rattle.days.specs.Days.{is_date, day_fits, is_day, before}
use Rattle.rights.specs.Rights.{rights_fit, role_of, is_rights}
use Rattle.certificate.specs.Certificate.{certificate_fits}
use Rattle.status.specs.Words.{word_number}
use Rattle.bodies.specs.Body.{unread, is_public_key, body_of, body_then, version_then, issuer_then, key_then, own_then, rights_then, first_then, last_then, ext_then}
use Rattle.trust.specs.Trust.{trust_point_fits, one_point, points_fit}
use Rattle.standing.specs.Standing.{no_chain}
use Rattle.session_limits.specs.SessionLimits.{chain_fits, ground_fits, context_fits}
use Rattle.token.specs.State.{start_of, made_of}
use Rattle.token.specs.Limits.{in_limits}
use Rattle.claims.specs.Dates.{LeapDays}

pub leap-days : LeapDays
unfolding objects_in objects objects_of found_in header_of tag_of second_tag_byte len_of length_after_81 length_after_82 taken copied_into is_name name_of name_fits no_key key_fits is_date day_fits is_day before rights_fit role_of is_rights certificate_fits word_number unread is_public_key body_of body_then version_then issuer_then key_then own_then rights_then first_then last_then ext_then trust_point_fits one_point points_fit no_chain chain_fits ground_fits context_fits start_of made_of in_limits
leap-days =
    record {
      first-day = (refl, refl);
      last-day = (refl, refl);
      today = (refl, refl);
      point-first = (refl, refl);
      point-last = (refl, refl);
      stored-today = (refl, refl);
      stored-point = (refl, refl);
    }
