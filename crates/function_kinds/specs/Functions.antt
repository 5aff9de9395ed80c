-- The network functions by their kinds: all of a function, and what a report shows of it. This project's own.
use Rattle.std.specs.Prelude.{◌≡◌, ℕ, List, Option}
use Rattle.flow_filter.specs.declared.packet.Packet.{Packet}
use Rattle.flow_filter.specs.declared.site.Site.{Site}
use Rattle.nf_function.specs.declared.kind.Kind.{Kind}
use Rattle.nf_function.specs.declared.kind.Kind.TheVariants as kinds
use Rattle.nf_function.specs.declared.output.Output.{Output}
use Rattle.nf_function.specs.Semantics.{Semantics, Step}
use Rattle.conn_tracker.specs.declared.conntrack.Conntrack.{Conntrack}
use Rattle.conn_tracker.specs.Conntrack.{conntrack}
use Rattle.conn_tracker.specs.Text as tracked
use Rattle.addr_translator.specs.declared.nat.Nat.{Nat}
use Rattle.addr_translator.specs.Nat.{nat}
use Rattle.addr_translator.specs.Table as translated
use Rattle.addr_translator.specs.Text as translation_texts
use Rattle.asset_monitor.specs.declared.monitor.Monitor.{Monitor}
use Rattle.asset_monitor.specs.Monitor.{monitor}
use Rattle.asset_monitor.specs.Table as watched
use Rattle.asset_monitor.specs.Text as asset_texts

-- what is said of a function holds of the one of this kind
abbrev pub OfKind : Kind → ((R F : Type 0) → Semantics R → Type 0) → Type 0
OfKind kinds.Conntrack P = P _ Conntrack conntrack
OfKind kinds.Nat P = P _ Nat nat
OfKind kinds.Monitor P = P _ Monitor monitor

-- what a report shows of a function: its kind, its table, and its texts
pub record Behavior (R : Type 0) : Type 0 where
  pub kind : Kind
  pub stepped : Site → Option R → Packet → Step R
  pub output_text : Output → List ℕ
  pub record_text : R → List ℕ

abbrev pub behavior_of : {R : Type 0} → Semantics R → Behavior R
behavior_of f = record { kind = f.kind; stepped = f.stepped; output_text = f.output_text; record_text = f.record_text }

-- what is said holds of a function that behaves so, however it stores its records
abbrev pub WithBehavior : {R : Type 0} → ((R : Type 0) → Semantics R → Type 0) → Behavior R → Type 0
WithBehavior {R} P behavior = (f : Semantics R) × (behavior_of f ≡ behavior) × P R f

-- the same of a function that behaves as the one of this kind
abbrev pub OfBehavior : Kind → ((R : Type 0) → Semantics R → Type 0) → Type 0
OfBehavior kinds.Conntrack P =
    WithBehavior P (record { kind = kinds.Conntrack; stepped = tracked.answered; output_text = tracked.output_text; record_text = tracked.record_text })
OfBehavior kinds.Nat P =
    WithBehavior P
    (record { kind = kinds.Nat; stepped = translated.step_of; output_text = translation_texts.output_text; record_text = translation_texts.record_text })
OfBehavior kinds.Monitor P =
    WithBehavior P (record { kind = kinds.Monitor; stepped = watched.step_of; output_text = asset_texts.output_text; record_text = asset_texts.record_text })
