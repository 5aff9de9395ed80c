-- The laws of filters, from those of their fields.
use Rattle.std.proofs.Common.{◌≡◌, ℕ, ◌^◌, true, ◌&&◌, Option, None, Some, sym, ◌∙◌, lit<, ◌↔◌}
use Rattle.std.specs.Prelude.{nat_eq, IfSome, OnSome, IfNone}
use Rattle.std.proofs.lemmas.Bool.{true_from_ne_false, both_ways}
use Rattle.flow_filter.specs.declared.prefix.Prefix.{Prefix}
use Rattle.flow_filter.specs.declared.flow.Flow.{Flow}
use Rattle.flow_filter.specs.declared.filter.Filter.{Filter}
use Rattle.basics.specs.Options.{◌>>=◌}
use Rattle.flow_filter.specs.Filter.{holds, agrees, matches, meet, covers, covers_value, covers_prefix, IsFlow, IsFilter, Meet, IsMeet, Covers}
use Rattle.flow_filter.proofs.FieldTests.{FieldTests, both_tests, Pass, each_passes, all_from, all_both, all_of_both}
use Rattle.flow_filter.proofs.FilterFieldLemmas.{number_below, address, Agreeing, MeetsField, number_meets, prefix_meets}
use Rattle.flow_filter.proofs.FilterFieldLemmas.{CoversField, number_covers, prefix_covers}

-- what the meet of two filters says
abbrev pub IsMeetOf : Filter → Filter → Option Filter → Type 0
IsMeetOf f g None = Meet f g → ⊥
IsMeetOf f g (Some both) = IsMeet f g both × Meet f g

-- whether each field of a filter agrees with a flow
abbrev tests_of : Filter → Flow → FieldTests
tests_of f flow = record {
  proto = agrees nat_eq f.proto flow.proto;
  local = agrees holds f.local flow.local;
  lport = agrees nat_eq f.lport flow.lport;
  remote = agrees holds f.remote flow.remote;
  rport = agrees nat_eq f.rport flow.rport;
}

-- the fields that both filters agree with, one by one
fields : (f g : Filter) (flow : Flow) → (matches f flow && matches g flow) ≡ true → Pass (both_tests (tests_of f flow) (tests_of g flow))
fields f g flow both =
    each_passes (both_tests (tests_of f flow) (tests_of g flow)) (all_both (tests_of f flow) (tests_of g flow) ∙ both)

-- the meet by its five fields
joined : (f g : Filter) (proto : Option (Option ℕ)) (local : Option (Option Prefix)) (lport : Option (Option ℕ)) (remote : Option (Option Prefix))
    (rport : Option (Option ℕ))
    → MeetsField (number_below (2 ^ 8)) f.proto g.proto proto → MeetsField address f.local g.local local
    → MeetsField (number_below (2 ^ 16)) f.lport g.lport lport
    → MeetsField address f.remote g.remote remote → MeetsField (number_below (2 ^ 16)) f.rport g.rport rport
    → IsMeetOf f g (proto >>= λ a. local >>= λ b. lport >>= λ c. remote >>= λ d. rport >>= λ e.
    Some (record { proto = a; local = b; lport = c; remote = d; rport = e }))
joined f g None local lport remote rport p l lp r rp = λ m. both_ways _ (p m.0.proto) (fields f g m.0 m.2).proto
joined f g (Some a) None lport remote rport p l lp r rp = λ m. both_ways _ (l m.0.local) (fields f g m.0 m.2).local
joined f g (Some a) (Some b) None remote rport p l lp r rp = λ m. both_ways _ (lp m.0.lport) (fields f g m.0 m.2).lport
joined f g (Some a) (Some b) (Some c) None rport p l lp r rp = λ m. both_ways _ (r m.0.remote) (fields f g m.0 m.2).remote
joined f g (Some a) (Some b) (Some c) (Some d) None p l lp r rp = λ m. both_ways _ (rp m.0.rport) (fields f g m.0 m.2).rport
joined f g (Some a) (Some b) (Some c) (Some d) (Some e) p l lp r rp =
    let both : Filter = record { proto = a; local = b; lport = c; remote = d; rport = e } in
    let exact : IsMeet f g both = λ flow fits. all_of_both (tests_of both flow) (tests_of f flow) (tests_of g flow)
    (record { proto = p.0 flow.proto; local = l.0 flow.local; lport = lp.0 flow.lport; remote = r.0 flow.remote; rport = rp.0 flow.rport }) in
    let witness : Flow = record { proto = p.1.0; local = l.1.0; lport = lp.1.0; remote = r.1.0; rport = rp.1.0 } in
    let fits : IsFlow witness = record { proto = p.1.1; local = l.1.1; lport = lp.1.1; remote = r.1.1; rport = rp.1.1 } in
    let agreed = all_from (tests_of both witness) (record { proto = p.1.2; local = l.1.2; lport = lp.1.2; remote = r.1.2; rport = rp.1.2 }) in
    (exact, (witness, fits, sym (exact witness fits) ∙ agreed))

-- the meet of two filters is what its clauses say
pub meet_law : (f g : Filter) → IsFilter f → IsFilter g → IsMeetOf f g (meet f g)
meet_law f g ff fg = joined f g _ _ _ _ _ (number_meets (2 ^ 8) f.proto g.proto (lit< tt) ff.proto fg.proto) (prefix_meets f.local g.local ff.local fg.local)
    (number_meets (2 ^ 16) f.lport g.lport (lit< tt) ff.lport fg.lport) (prefix_meets f.remote g.remote ff.remote fg.remote)
    (number_meets (2 ^ 16) f.rport g.rport (lit< tt) ff.rport fg.rport)

-- the clauses of `meet`, for a result that is the meet
pub record MeetClauses (f g : Filter) (r : Option Filter) : Type 0 where
  pub exact : IfSome r (IsMeet f g)
  pub some : OnSome r (Meet f g)
  pub none : IfNone r (Meet f g → ⊥)

meet_cases : (f g : Filter) (r : Option Filter) → IsMeetOf f g r → MeetClauses f g r
meet_cases f g None law = record { exact = tt; some = tt; none = law }
meet_cases f g (Some both) law = record { exact = law.0; some = law.1; none = tt }

pub meet_clauses : (f g : Filter) (r : Option Filter) → IsFilter f → IsFilter g → r ≡ meet f g → MeetClauses f g r
meet_clauses f g r ff fg is = meet_cases f g r (rw is (meet_law f g ff fg))

-- whether each field of a filter covers that of another
abbrev covered_fields : Filter → Filter → FieldTests
covered_fields f g = record {
  proto = covers_value nat_eq f.proto g.proto;
  local = covers_prefix f.local g.local;
  lport = covers_value nat_eq f.lport g.lport;
  remote = covers_prefix f.remote g.remote;
  rport = covers_value nat_eq f.rport g.rport;
}

-- what the cover of each field says
record CoversFields (f g : Filter) (covered : FieldTests) : Type 0 where
  of_proto : CoversField (number_below (2 ^ 8)) f.proto g.proto covered.proto
  of_local : CoversField address f.local g.local covered.local
  of_lport : CoversField (number_below (2 ^ 16)) f.lport g.lport covered.lport
  of_remote : CoversField address f.remote g.remote covered.remote
  of_rport : CoversField (number_below (2 ^ 16)) f.rport g.rport covered.rport

module _ (f g : Filter) (covered : FieldTests) (laws : CoversFields f g covered) where
  -- fields that all cover
  all_cover : Pass covered → Covers f g
  all_cover all flow fits at_g =
      let at = each_passes (tests_of g flow) at_g in
      all_from (tests_of f flow) (record {
        proto = laws.of_proto.yes all.proto flow.proto fits.proto at.proto;
        local = laws.of_local.yes all.local flow.local fits.local at.local;
        lport = laws.of_lport.yes all.lport flow.lport fits.lport at.lport;
        remote = laws.of_remote.yes all.remote flow.remote fits.remote at.remote;
        rport = laws.of_rport.yes all.rport flow.rport fits.rport at.rport;
      })

  -- where f covers g, each field covers
  each_covers : Covers f g → Pass covered
  each_covers given =
      let p = laws.of_proto.some in let l = laws.of_local.some in let lp = laws.of_lport.some in let r = laws.of_remote.some in let rp = laws.of_rport.some in
      record {
        proto = true_from_ne_false covered.proto (λ is. let far = laws.of_proto.never is in
            both_ways _ far.3 (agreed (far.0, far.1, far.2) l lp r rp).proto);
        local = true_from_ne_false covered.local (λ is. let far = laws.of_local.never is in
            both_ways _ far.3 (agreed p (far.0, far.1, far.2) lp r rp).local);
        lport = true_from_ne_false covered.lport (λ is. let far = laws.of_lport.never is in
            both_ways _ far.3 (agreed p l (far.0, far.1, far.2) r rp).lport);
        remote = true_from_ne_false covered.remote (λ is. let far = laws.of_remote.never is in
            both_ways _ far.3 (agreed p l lp (far.0, far.1, far.2) rp).remote);
        rport = true_from_ne_false covered.rport (λ is. let far = laws.of_rport.never is in
            both_ways _ far.3 (agreed p l lp r (far.0, far.1, far.2)).rport);
      }
    where
      -- a flow each of whose fields agrees with g agrees with f
      agreed : (p : Agreeing (number_below (2 ^ 8)) g.proto) (l : Agreeing address g.local) (lp : Agreeing (number_below (2 ^ 16)) g.lport)
          (r : Agreeing address g.remote) (rp : Agreeing (number_below (2 ^ 16)) g.rport)
          → Pass (tests_of f (record { proto = p.0; local = l.0; lport = lp.0; remote = r.0; rport = rp.0 }))
      agreed p l lp r rp =
          let flow : Flow = record { proto = p.0; local = l.0; lport = lp.0; remote = r.0; rport = rp.0 } in
          let fits : IsFlow flow = record { proto = p.1; local = l.1; lport = lp.1; remote = r.1; rport = rp.1 } in
          let at_g = all_from (tests_of g flow) (record { proto = p.2; local = l.2; lport = lp.2; remote = r.2; rport = rp.2 }) in
          each_passes (tests_of f flow) (given flow fits at_g)

-- the test of all fields is true exactly where f covers g
pub covers_law : (f g : Filter) → IsFilter f → IsFilter g → (covers f g ≡ true) ↔ Covers f g
covers_law f g ff fg =
    let tests = covered_fields f g in
    let laws : CoversFields f g tests = record {
      of_proto = number_covers (2 ^ 8) f.proto g.proto (lit< tt) fg.proto;
      of_local = prefix_covers f.local g.local ff.local fg.local;
      of_lport = number_covers (2 ^ 16) f.lport g.lport (lit< tt) fg.lport;
      of_remote = prefix_covers f.remote g.remote ff.remote fg.remote;
      of_rport = number_covers (2 ^ 16) f.rport g.rport (lit< tt) fg.rport;
    } in
    ((λ all. all_cover f g tests laws (each_passes tests all)), (λ given. all_from tests (each_covers f g tests laws given)))
