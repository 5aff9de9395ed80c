-- The asset monitor as a network function. This project's own.
use Rattle.std.specs.Prelude.{true, false}
use Rattle.nf_function.specs.declared.kind.Kind.TheVariants as kinds
use Rattle.nf_function.specs.Semantics.{Semantics}
use Rattle.asset_monitor.specs.declared.record.AssetRecord.{AssetRecord}
use Rattle.asset_monitor.specs.Table.{step_of}
use Rattle.asset_monitor.specs.Text.{output_text, record_text}
use Rattle.asset_monitor.specs.Body.{is_valid, body_of, spelled}

abbrev pub monitor : Semantics AssetRecord
monitor = record {
  kind = kinds.Monitor;
  stepped = step_of;
  packets_of = λ r. r.packets;
  is_valid = is_valid;
  body_of = body_of;
  spelled = spelled;
  takes_memory = true;
  is_timed = λ r. false;
  output_text = output_text;
  record_text = record_text;
}
