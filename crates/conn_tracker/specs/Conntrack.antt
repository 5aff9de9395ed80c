-- The connection tracker as a network function. This project's own.
use Rattle.std.specs.Prelude.{nat_le, false}
use Rattle.nf_function.specs.declared.kind.Kind.TheVariants.{Conntrack}
use Rattle.nf_function.specs.Semantics.{Semantics}
use Rattle.conn_tracker.specs.declared.record.TrackRecord.{TrackRecord}
use Rattle.conn_tracker.specs.Text.{answered, output_text, record_text}
use Rattle.conn_tracker.specs.Body.{is_valid, body_of, spelled}

abbrev pub conntrack : Semantics TrackRecord
conntrack = record {
  kind = Conntrack;
  stepped = answered;
  packets_of = λ r. r.packets;
  is_valid = is_valid;
  body_of = body_of;
  spelled = spelled;
  takes_memory = false;
  is_timed = λ r. nat_le 1 r.seen;
  output_text = output_text;
  record_text = record_text;
}
