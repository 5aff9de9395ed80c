-- The address translator as a network function. This project's own.
use Rattle.std.specs.Prelude.{false}
use Rattle.nf_function.specs.declared.kind.Kind.TheVariants as kinds
use Rattle.nf_function.specs.Semantics.{Semantics}
use Rattle.addr_translator.specs.Mappings.{Translation}
use Rattle.addr_translator.specs.Table.{step_of}
use Rattle.addr_translator.specs.Text.{output_text, record_text}
use Rattle.addr_translator.specs.Body.{is_valid, body_of, spelled}

abbrev pub nat : Semantics Translation
nat = record {
  kind = kinds.Nat;
  stepped = step_of;
  packets_of = λ r. r.packets;
  is_valid = is_valid;
  body_of = body_of;
  spelled = spelled;
  takes_memory = false;
  is_timed = λ r. false;
  output_text = output_text;
  record_text = record_text;
}
