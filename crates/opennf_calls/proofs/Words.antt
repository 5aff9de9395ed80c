-- The names that most proofs of the calls cite, passed on from one place. Declares nothing.
pub use Rattle.std.proofs.Common.{refl, ◌≡◌, List, ℕ, [], ap, subst, sym, ◌∙◌, None, Some, rules, Err, Ok, is_some, IsTrue, Option, inl, inr, true, ◌&&◌}
pub use Rattle.std.proofs.Common.{Result, false, Bool, map, ◌≢◌, ◌⊎◌, length}
pub use Rattle.std.proofs.lemmas.Bool.{and_parts}
pub use Rattle.std.proofs.lemmas.Result.{err_from_is_err_and}
pub use Rattle.std.specs.Io.KnownBytes.{Appends}
pub use Rattle.std.specs.Prelude.{string_bytes, MatchResult}
pub use Rattle.actor_net.specs.declared.choice.Choice.{Choice}
pub use Rattle.actor_net.specs.declared.schedule.Schedule.{Schedule}
pub use Rattle.call_files.proofs.BoundFiles.{same_named}
pub use Rattle.call_files.proofs.InputRows.{still_named}
pub use Rattle.call_files.proofs.ReadRoles.{one_read}
pub use Rattle.call_files.proofs.RoleLemmas.{at_each}
pub use Rattle.call_files.proofs.SameInputs.{AreSame, same_scenario}
pub use Rattle.call_files.specs.Command.{is_input, file_for, is_result, is_read_before, comes_before, with_journal}
pub use Rattle.call_files.specs.Files.{IsBound, HasInput, Gained, WroteNothing, WroteResultsAlone, MayBind}
pub use Rattle.call_files.specs.Phases.{OnlyRead, GivesReport, gives, scenario_of, SameNames, HasInputs, ReadAlone, ReadToEnd, SameContents, ScriptFails}
pub use Rattle.call_files.specs.Phases.{TellsInputs, reports}
pub use Rattle.call_files.specs.Refusals.{refusal_of, earlier_refusal, script_refusal, first_refusal, journal_read, journal_refusal, inputs_refusal}
pub use Rattle.call_files.specs.Refusals.{trace_refusal}
pub use Rattle.call_files.specs.Scenarios.{RunResults, Scenario, given_script}
pub use Rattle.call_files.specs.Writing.{Wrote, Written, all_of, WroteReport, front_of, Gains}
pub use Rattle.call_files.specs.declared.outcome.Outcome.{Outcome}
pub use Rattle.call_files.specs.declared.results.Made.{Made}
pub use Rattle.call_files.specs.declared.status.Status.{Status}
pub use Rattle.call_files.specs.declared.status.Status.TheVariants.{NoMemory, Ok as Done, WriteFault, BadScript, NotARun, ReadFault, BadTrace, BadJournal}
pub use Rattle.call_files.specs.declared.status.Status.TheVariants.{Usage}
pub use Rattle.command_words.specs.RequestViews.{network_view, calm_view, check_view, fail_view, gen_view, published_view, strong_view}
pub use Rattle.command_words.specs.Requests.{Asked, asks_run, NetworkAsked, asks_audit, asks_sim, asks_fail, asks_check, FailAsked, asks_published}
pub use Rattle.command_words.specs.Requests.{asks_strong, request_of, CheckAsked}
pub use Rattle.command_words.specs.Values.{names_of}
pub use Rattle.function_kinds.proofs.FunctionLemmas.{from_kind, from_both}
pub use Rattle.function_kinds.specs.Functions.{OfKind}
pub use Rattle.journal_file.specs.Reading.{journal_of}
pub use Rattle.network_calls.specs.NetworkRuns.{HasRun, IsRunOf, head_for, run_given}
pub use Rattle.nf_function.specs.Semantics.{Semantics}
pub use Rattle.nf_io.specs.Meaning.{Meaning, Rose, as_named, AppendsFront, Shown}
pub use Rattle.nf_io.specs.Roles.{is_read}
pub use Rattle.nf_io.specs.declared.outside.Role.{Role}
pub use Rattle.nf_io.specs.declared.outside.Role.TheVariants.{Script, Trace, Errors, Report, JournalOut, TraceOut, JournalIn}
pub use Rattle.op_script.specs.Reading.{script_of}
pub use Rattle.trace_reader.specs.Records.{capture_of}
pub use Rattle.opennf_calls.specs.Ended.{Performs}
pub use Rattle.opennf_calls.specs.Outcome.{RowOf, ForResults, IsRefusedCommand, EarlierAreSound, HasEarlier, CauseOf, HasResults, IsDone, IsReadFault}
