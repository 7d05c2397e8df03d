-- The one claim: P1 to P12 hold of the definitions, each by computing it. Assumes nothing.
use mathlib.Core.Path.{refl}
use Rattle.objects.specs.Objects.{objects_in, objects, objects_of, found_in, header_of, tag_of, second_tag_byte, len_of, length_after_81, length_after_82}
use Rattle.objects.specs.Chain.{counted, taken}
use Rattle.strings.specs.Bytes.{copied_into}
use Rattle.names.specs.Names.{is_name, name_of, no_name, name_fits, same_name}
use Rattle.keys.specs.Keys.{key_of, no_key, key_fits, key_stands}
use Rattle.days.specs.Days.{is_date, day_fits, is_day, before, later}
use Rattle.rights.specs.Rights.{rights_fit, role_of, is_rights, and_of, common, group_mask, reads_group}
use Rattle.certificate.specs.Certificate.{no_certificate, certificate_fits, expired, with_key}
use Rattle.status.specs.Words.{word_number}
use Rattle.bodies.specs.Body.{is_public_key, is_signature, body_then, signed_of, version_then, issuer_then, key_then, own_then, rights_then, first_then, last_then, ext_then}
use Rattle.form.specs.Form.{form_of, after_header, after_four, extended_of, data_then, after_short, after_long}
use Rattle.command.specs.Kind.{kind_of}
use Rattle.command.specs.Shape.{shape_of, headed_of}
use Rattle.event.specs.Event.{word_of}
use Rattle.plans.specs.Plans.{settled_by, awaits_by}
use Rattle.verdicts.specs.Verdicts.{ends_by, passes_by, judged_of, awaited_of, ending_of}
use Rattle.taking.specs.Taking.{reading, lastly, fitted, last_of, holds}
use Rattle.fields.specs.Given.{only, verifying}
use Rattle.fields.specs.Choice.{choice_of, protocol_then, password_then, chosen_by}
use Rattle.fields.specs.Choice as choice
use Rattle.fields.specs.Held.{general_of, held_in}
use Rattle.fields.specs.Issuers.{verified, verify_of}
use Rattle.fields.specs.Asked.{data_of, asking, asked_of}
use Rattle.headers.specs.Encode.{tag_bytes, length_bytes, header, object}
use Rattle.brought.specs.Brought.{brought_none}
use Rattle.reply.specs.Reply as reply
use Rattle.trust.specs.Trust.{trust_point_fits, one_point, points_fit, knows, found, linked}
use Rattle.standing.specs.Standing.{no_chain}
use Rattle.moment.specs.Moment.{moment_of}
use Rattle.session_limits.specs.SessionLimits.{trusted_fits, dv_fits, terminal_fits, chain_fits, ground_fits, context_fits}
use Rattle.authorization.specs.Authorization.{shared_by, authorization}
use Rattle.token.specs.State.{start_of}
use Rattle.token.specs.Limits.{in_limits}
use Rattle.checks.specs.Checks.{choose_plan, run_plan, general_plan, read_plan}
use Rattle.certify.specs.Certify.{repeats, late, issued_ending, under_plan, verify_plan}
use Rattle.token.specs.Plan.{command_of, given_of, timed_of, requested_of, guarded, plan_of}
use Rattle.token.specs.After.{choice_taken, run_closed, trial_lost, link_taken, dv_taken, terminal_taken, after_of}
use Rattle.answer.specs.Answer.{layout_of, reply_to}
use Rattle.token.specs.Step.{step_of}
use Rattle.claims.specs.Values.{Values}

pub values-met : Values
unfolding objects_in objects objects_of found_in header_of tag_of second_tag_byte len_of length_after_81 length_after_82 counted taken copied_into is_name name_of no_name name_fits same_name key_of no_key key_fits key_stands is_date day_fits is_day before later rights_fit role_of is_rights and_of common group_mask reads_group no_certificate certificate_fits expired with_key word_number is_public_key is_signature body_then signed_of version_then issuer_then key_then own_then rights_then first_then last_then ext_then form_of after_header after_four extended_of data_then after_short after_long kind_of shape_of headed_of word_of settled_by awaits_by ends_by passes_by judged_of awaited_of ending_of reading lastly fitted last_of holds only verifying choice_of protocol_then password_then choice.rights_then chosen_by general_of held_in verified verify_of data_of asking asked_of tag_bytes length_bytes header object brought_none reply.data_of reply.reply_of trust_point_fits one_point points_fit knows found linked no_chain moment_of trusted_fits dv_fits terminal_fits chain_fits ground_fits context_fits shared_by authorization start_of in_limits choose_plan run_plan general_plan read_plan repeats late issued_ending under_plan verify_plan command_of given_of timed_of requested_of guarded plan_of choice_taken run_closed trial_lost link_taken dv_taken terminal_taken after_of layout_of reply_to step_of
values-met =
    record {
      p1 = refl;
      p2 = (refl, refl, refl);
      p3 = refl;
      p4 = (refl, refl, refl, refl);
      p5 = (refl, refl);
      p6 = (refl, refl);
      p7 = refl;
      p8 = (refl, refl);
      p9 = (refl, refl);
      p9-link = (refl, refl);
      p10 = (refl, refl);
      p11 = (refl, refl);
      p12 = (refl, refl);
    }
