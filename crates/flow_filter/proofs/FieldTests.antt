-- One test for each field of a flow, and all of them together.
use Rattle.std.proofs.Common.{◌≡◌, Bool, true, ◌&&◌, ap, ◌∙◌}
use Rattle.std.proofs.lemmas.Bool.{and_parts, and_from}
use Rattle.basics.proofs.BoolLemmas.{and_cross}

-- what a test of each field gives
pub record FieldTests : Type 0 where
  pub proto : Bool
  pub local : Bool
  pub lport : Bool
  pub remote : Bool
  pub rport : Bool

abbrev pub all_pass : FieldTests → Bool
all_pass t = t.proto && t.local && t.lport && t.remote && t.rport

-- two tests of each field
abbrev pub both_tests : FieldTests → FieldTests → FieldTests
both_tests s t = record {
  proto = s.proto && t.proto;
  local = s.local && t.local;
  lport = s.lport && t.lport;
  remote = s.remote && t.remote;
  rport = s.rport && t.rport;
}

-- each test passes
pub record Pass (t : FieldTests) : Type 0 where
  pub proto : t.proto ≡ true
  pub local : t.local ≡ true
  pub lport : t.lport ≡ true
  pub remote : t.remote ≡ true
  pub rport : t.rport ≡ true

pub each_passes : (t : FieldTests) → all_pass t ≡ true → Pass t
each_passes t all =
    let to_remote = and_parts (t.proto && t.local && t.lport && t.remote) t.rport all in
    let to_lport = and_parts (t.proto && t.local && t.lport) t.remote to_remote.0 in
    let to_local = and_parts (t.proto && t.local) t.lport to_lport.0 in
    let first = and_parts t.proto t.local to_local.0 in
    record { proto = first.0; local = first.1; lport = to_local.1; remote = to_lport.1; rport = to_remote.1 }

pub all_from : (t : FieldTests) → Pass t → all_pass t ≡ true
all_from t each =
    and_from _ t.rport (and_from _ t.remote (and_from _ t.lport (and_from t.proto t.local each.proto each.local) each.lport) each.remote) each.rport

-- both tests of each field pass exactly where all of the first do and all of the second
pub all_both : (s t : FieldTests) → all_pass (both_tests s t) ≡ (all_pass s && all_pass t)
all_both s t =
    ap (λ b. b && (s.lport && t.lport) && (s.remote && t.remote) && (s.rport && t.rport)) (and_cross s.proto t.proto s.local t.local)
    ∙ ap (λ b. b && (s.remote && t.remote) && (s.rport && t.rport)) (and_cross (s.proto && s.local) (t.proto && t.local) s.lport t.lport)
    ∙ ap (λ b. b && (s.rport && t.rport)) (and_cross (s.proto && s.local && s.lport) (t.proto && t.local && t.lport) s.remote t.remote)
    ∙ and_cross (s.proto && s.local && s.lport && s.remote) (t.proto && t.local && t.lport && t.remote) s.rport t.rport

-- each of these tests is that of both others
pub record AreBoth (r s t : FieldTests) : Type 0 where
  pub proto : r.proto ≡ (s.proto && t.proto)
  pub local : r.local ≡ (s.local && t.local)
  pub lport : r.lport ≡ (s.lport && t.lport)
  pub remote : r.remote ≡ (s.remote && t.remote)
  pub rport : r.rport ≡ (s.rport && t.rport)

pub all_of_both : (r s t : FieldTests) → AreBoth r s t → all_pass r ≡ (all_pass s && all_pass t)
all_of_both r s t are =
    ap (λ b. b && r.local && r.lport && r.remote && r.rport) are.proto
    ∙ ap (λ b. (s.proto && t.proto) && b && r.lport && r.remote && r.rport) are.local
    ∙ ap (λ b. (s.proto && t.proto) && (s.local && t.local) && b && r.remote && r.rport) are.lport
    ∙ ap (λ b. (s.proto && t.proto) && (s.local && t.local) && (s.lport && t.lport) && b && r.rport) are.remote
    ∙ ap (λ b. (s.proto && t.proto) && (s.local && t.local) && (s.lport && t.lport) && (s.remote && t.remote) && b) are.rport
    ∙ all_both s t
