-- The short records, computed on both sides. Assumes nothing.
use Rattle.bodies.specs.Body.{unread, is_public_key, is_signature, ext_then, last_then, first_then, rights_then, own_then, key_then, issuer_then, version_then, body_then, body_of, signed_of, key_objects, is_signed}
use Rattle.form.specs.Form.{after_short, after_long, data_then, extended_of, after_four, after_header, form_of}
use Rattle.command.specs.Kind.{kind_of}
use Rattle.command.specs.Shape.{headed_of, shape_of}
use Rattle.plans.specs.Plans.{settled_by, awaits_by}
use Rattle.event.specs.Event.{word_of}
use Rattle.verdicts.specs.Verdicts.{ends_by, passes_by, judged_of, awaited_of, ending_of}
use Rattle.fields.specs.Announce.{key_then as key_then·Announce·fields, auxiliary_then, terminal_then, protocol_then, announce_of}
use Rattle.fields.specs.Asked.{data_of, refusing, asking, asked_of}
use Rattle.fields.specs.Chip.{reference_in, chip_of}
use Rattle.fields.specs.Choice.{chosen_by, rights_then as rights_then·Choice·fields, password_then, protocol_then as protocol_then·Choice·fields, choice_of}
use Rattle.fields.specs.Given.{only, selecting, verifying, announcing}
use Rattle.fields.specs.Held.{held_in, general_of}
use Rattle.fields.specs.Issuers.{select_of, verified, verify_of}
use Rattle.fields.specs.Plain.{proof_of, pin_of}
use Rattle.taking.specs.Taking.{reading, lastly, fitted, last_of, holds}
use Rattle.objects.specs.Chain.{counted, taken}
use Rattle.objects.specs.Objects.{second_tag_byte, tag_of, length_after_81, length_after_82, len_of, header_of, objects_of, objects, object, objects_in, found_in}
use Rattle.record.specs.Entries.{after}
use Rattle.rule.specs.Rule.{readable}
use Rattle.headers.specs.Encode.{tag_bytes, length_bytes, header, object as object·headers}
use Rattle.brought.specs.Brought.{brought_none}
use Rattle.buffers.specs.Lay.{over}
use Rattle.reply.specs.Reply.{data_of as data_of·Reply·reply, reply_of}
use Rattle.authorization.specs.Authorization.{shared_by, authorization}
use Rattle.session_limits.specs.SessionLimits.{trusted_fits, dv_fits, terminal_fits, chain_fits, ground_fits, context_fits}
use Rattle.moment.specs.Moment.{moment_of}
use Rattle.standing.specs.Standing.{no_chain}
use Rattle.token.specs.After.{choice_taken, staged, step_passed, opened, run_closed, trial_lost, issuer_selected, link_taken, dv_taken, terminal_taken, announced, unblocked, unblocked_by_puk, after_of}
use Rattle.certify.specs.Certify.{select_plan, repeats, late, issued_ending, under_plan, verify_plan}
use Rattle.checks.specs.Checks.{choose_plan, run_plan, chip_plan, general_plan, announce_plan, read_plan, change_plan, unblock_plan, active_plan}
use Rattle.token.specs.Limits.{in_limits}
use Rattle.token.specs.Plan.{command_of, given_of, timed_of, requested_of, guarded, plan_of}
use Rattle.token.specs.State.{reset_of, start_of, no_token, made_of}
use Rattle.answer.specs.Answer.{layout_of, reply_to}
use Rattle.token.specs.Step.{step_of}
use Rattle.trust.specs.Trust.{trust_point_fits, one_point, two_points, points_fit, knows, found, linked}
use Rattle.strings.specs.Bytes.{copied_into}
use Rattle.days.specs.Days.{is_date, day_fits, is_day, dated, before, later}
use Rattle.keys.specs.Keys.{is_key, key_of, no_key, key_is, key_fits, key_stands}
use Rattle.names.specs.Names.{is_name, name_of, no_name, name_fits, same_name}
use Rattle.certificate.specs.Certificate.{no_certificate, certificate_fits, expired, with_key}
use Rattle.rights.specs.Rights.{rights_fit, role_of, is_rights, granted, and_of, common, group_mask, reads_group}
use Rattle.status.specs.Words.{word_number}
use mathlib.Core.Path.{refl}
use Rattle.record.specs.Worked.{AllWorked}

pub all-worked : AllWorked
unfolding unread is_public_key is_signature ext_then last_then first_then rights_then own_then key_then issuer_then version_then body_then body_of signed_of key_objects is_signed after_short after_long data_then extended_of after_four after_header form_of kind_of headed_of shape_of settled_by awaits_by word_of ends_by passes_by judged_of awaited_of ending_of key_then·Announce·fields auxiliary_then terminal_then protocol_then announce_of data_of refusing asking asked_of reference_in chip_of chosen_by rights_then·Choice·fields password_then protocol_then·Choice·fields choice_of only selecting verifying announcing held_in general_of select_of verified verify_of proof_of pin_of reading lastly fitted last_of holds counted taken second_tag_byte tag_of length_after_81 length_after_82 len_of header_of objects_of objects object objects_in found_in after readable tag_bytes length_bytes header object·headers brought_none over data_of·Reply·reply reply_of shared_by authorization trusted_fits dv_fits terminal_fits chain_fits ground_fits context_fits moment_of no_chain choice_taken staged step_passed opened run_closed trial_lost issuer_selected link_taken dv_taken terminal_taken announced unblocked unblocked_by_puk after_of select_plan repeats late issued_ending under_plan verify_plan choose_plan run_plan chip_plan general_plan announce_plan read_plan change_plan unblock_plan active_plan in_limits command_of given_of timed_of requested_of guarded plan_of reset_of start_of no_token made_of layout_of reply_to step_of trust_point_fits one_point two_points points_fit knows found linked copied_into is_date day_fits is_day dated before later is_key key_of no_key key_is key_fits key_stands is_name name_of no_name name_fits same_name no_certificate certificate_fits expired with_key rights_fit role_of is_rights granted and_of common group_mask reads_group word_number
all-worked = ((refl, refl), (refl, refl), (refl, refl), (refl, refl), (refl, refl), (refl, refl), (refl, refl), (refl, refl))
