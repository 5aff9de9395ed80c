-- The names that most proofs of scripts cite, passed on from one place. Declares nothing.
pub use Rattle.std.proofs.Common.{◌≡◌, ◌++◌, List, ◌∙◌, [], ℕ, ap, refl, sym, true, ◌∷◌, false, length, ◌<◌, arith, subst, Bool, eqb, map, ◌≤◌, None, Some}
pub use Rattle.std.proofs.Common.{cond, leb, take, ◌^◌, ◌+◌, Ok, Option, not, get_or, is_some, option_map, drop, rules, suc, ◌&&◌, Err, append-nil}
pub use Rattle.std.proofs.Common.{append_assoc, inl, inr, length-append, zero, ◌-◌, Result, filter, unwrap_or, ◌*◌}
pub use Rattle.std.proofs.lemmas.Bool.{and_parts, leb-true, ne_eqb, cases_Bool, not-false, or_parts}
pub use Rattle.std.proofs.lemmas.Bool.Decides.{nat_tests}
pub use Rattle.std.proofs.lemmas.Iterator.{YieldsList-from_slice}
pub use Rattle.std.proofs.lemmas.Iterator.Consumers.{YieldsList-at}
pub use Rattle.std.proofs.lemmas.List.{length-map, map-append, take_all}
pub use Rattle.std.proofs.lemmas.Slice.Eq.{bytes_eq-Decides}
pub use Rattle.std.proofs.lemmas.Str.{is_utf8-from_IsUtf8}
pub use Rattle.std.specs.Fmt.{decimal}
pub use Rattle.std.specs.List.{AllByRecursion, slice_split, join_with_byte, concat, list_all, prefix_len}
pub use Rattle.std.specs.Option.{ForSome}
pub use Rattle.std.specs.Prelude.{codes, ◌==◌}
pub use Rattle.std.specs.Str.{bytes_eq, is_utf8}
pub use Rattle.std.specs.Str.Lines.{strip_carriage_return}
pub use Rattle.basics.proofs.BytesLeft.{bytes_left}
pub use Rattle.basics.proofs.SplitLemmas.{split-Some, Lacks, split_once-append}
pub use Rattle.basics.specs.Parsing.{split_once, remaining_pieces}
pub use Rattle.basics.specs.Results.{◌>>=◌}
pub use Rattle.flow_filter.specs.Filter.{IsFilter}
pub use Rattle.flow_filter.specs.FilterText.{Fields, after_commas, fields_of}
unfoldable pub use Rattle.flow_filter.specs.FilterText.{print, parse}
pub use Rattle.flow_filter.specs.Name.{is_name, has_twice, is_name_byte, place_of}
pub use Rattle.flow_filter.specs.Packet.{IsInRange}
pub use Rattle.flow_filter.specs.declared.filter.Filter.{Filter}
pub use Rattle.flow_filter.specs.declared.packet.Packet.{Packet}
pub use Rattle.nf_function.specs.Units.{splits}
pub use Rattle.nf_function.specs.declared.kind.Kind.{Kind}
pub use Rattle.nf_msgs.specs.declared.msg.Msg.{Msg}
pub use Rattle.nf_msgs.specs.declared.msg.Msg.TheVariants.{InPacket}
pub use Rattle.op_script.specs.Items.{said_where, AreLinesFrom, items, items_from, msg_of}
pub use Rattle.op_script.specs.PacketItems.{packets_of}
pub use Rattle.op_script.specs.Printing.{IsScript, SplitsNone, line_text, IsLine, IsRoute, line_words, route_words, IsWhat, and_then, is_in_order, next_after}
pub use Rattle.op_script.specs.Printing.{order_splits, what_splits}
unfoldable pub use Rattle.op_script.specs.Printing.{script_text}
pub use Rattle.op_script.specs.Reading.{LineView, OrderView, State, with_lines, with_statement, Judged, line_view}
unfoldable pub use Rattle.op_script.specs.Reading.{order_said, distinct_names, filter_of}
pub use Rattle.op_script.specs.Reading.{order_view, script_view, with_text}
unfoldable pub use Rattle.op_script.specs.Reading.{script_of, with_route}
pub use Rattle.op_script.specs.ReadingSteps.{numbered, start, unless, command_count, goes_back, noted, route_view, wanted}
pub use Rattle.op_script.specs.Statements.{Word, Event, Happening, Sharing, Copying, Moving, Routing, Settling, Statement, words}
unfoldable pub use Rattle.op_script.specs.Statements.{statement_of, event_of}
pub use Rattle.op_script.specs.WordSteps.{is_blank}
pub use Rattle.op_script.specs.declared.script.Line.{Line}
pub use Rattle.op_script.specs.declared.script.Script.{Script}
pub use Rattle.op_script.specs.declared.script.What.TheVariants.{Settle}
