-- What is said of the function of a kind, whichever it is.
use Rattle.std.proofs.Common.{refl}
use Rattle.std.specs.Prelude.{Result, Ok, Err, IfOk}
use Rattle.nf_function.specs.declared.kind.Kind.{Kind}
use Rattle.nf_function.specs.declared.kind.Kind.TheVariants as kinds
use Rattle.nf_function.specs.Semantics.{Semantics}
use Rattle.conn_tracker.specs.declared.conntrack.Conntrack.{Conntrack}
use Rattle.conn_tracker.specs.Conntrack.{conntrack}
use Rattle.addr_translator.specs.declared.nat.Nat.{Nat}
use Rattle.addr_translator.specs.Nat.{nat}
use Rattle.asset_monitor.specs.declared.monitor.Monitor.{Monitor}
use Rattle.asset_monitor.specs.Monitor.{monitor}
use Rattle.function_kinds.specs.Functions.{OfBehavior, OfKind}

-- what is said of each function
abbrev Said : Type 1
Said = (R F : Type 0) → Semantics R → Type 0

-- what follows for each function follows for the one of a kind
pub of_kind : (kind : Kind) (P Q : Said) → ((R F : Type 0) (f : Semantics R) → P R F f → Q R F f) → OfKind kind P → OfKind kind Q
of_kind kinds.Conntrack P Q follows holds = follows _ Conntrack conntrack holds
of_kind kinds.Nat P Q follows holds = follows _ Nat nat holds
of_kind kinds.Monitor P Q follows holds = follows _ Monitor monitor holds

-- what follows from two facts of each function follows from those of the one of a kind
pub from_both : (kind : Kind) (P Q : Said) (X : Type 0) → ((R F : Type 0) (f : Semantics R) → P R F f → Q R F f → X) → OfKind kind P → OfKind kind Q → X
from_both kinds.Conntrack P Q X follows p q = follows _ Conntrack conntrack p q
from_both kinds.Nat P Q X follows p q = follows _ Nat nat p q
from_both kinds.Monitor P Q X follows p q = follows _ Monitor monitor p q

pub from_kind : (kind : Kind) (P : Said) (X : Type 0) → ((R F : Type 0) (f : Semantics R) → P R F f → X) → OfKind kind P → X
from_kind kind P X follows p = from_both kind P P X (λ R F f p q. follows R F f p) p p

-- an answer of which something is said for each function
pub ok_of_kind : {X E : Type 0} (kind : Kind) (r : Result X E) (P : X → Said) → OfKind kind (λ R F f. IfOk r (λ x. P x R F f)) → IfOk r (λ x. OfKind kind (P x))
ok_of_kind kind (Ok x) P holds = holds
ok_of_kind kind (Err e) P holds = tt

-- what holds of the function of a kind holds of one that behaves so
pub of_behavior : (kind : Kind) (P : (R : Type 0) → Semantics R → Type 0) → OfKind kind (λ R F f. P R f) → OfBehavior kind P
of_behavior kinds.Conntrack P holds = (conntrack, refl, holds)
of_behavior kinds.Nat P holds = (nat, refl, holds)
of_behavior kinds.Monitor P holds = (monitor, refl, holds)
