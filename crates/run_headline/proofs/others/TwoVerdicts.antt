-- The line of what an update came to: done, where a packet that is to be moved came after the low rule; such a packet is one of the capture.
use Rattle.run_headline.proofs.Words.{◌≡◌, ℕ, zero, suc, ◌+◌, Bool, true, false, ◌||◌, List, [], ◌∷◌, ◌++◌, map, drop, refl, sym, ap, ◌∙◌, append-nil}
use Rattle.run_headline.proofs.Words.{if◌then◌else◌, flat_map, list_any, position_or_len, or-true, Packet, matches, flow_of, Semantics, Each, packet_numbered}
use Rattle.run_headline.proofs.Words.{arrivals_in, TwoNote, after_low, has_come, trace, verdict_line, UpdateJob, items_of, verdict_text, two_subject}
use Rattle.std.proofs.lemmas.List.Elements.{filter_map-append}
use Rattle.std.proofs.lemmas.List.Folds.{list_any-append}
use Rattle.net_world.specs.Fold.{IsFront}
use Rattle.net_world.proofs.LogLemmas.{arrived-append}
use Rattle.two_phase.specs.declared.note.TwoNote.TheVariants.{Inner, Low, High, Done, NoPacket}
use Rattle.two_phase.specs.Promises.{inner_note, inner_notes, is_low, is_matched, verdicts}
use Rattle.run_headline.specs.Published.{is_moved}

-- the lines of a log are those of its verdicts
verdict_lines : (log : List TwoNote) → flat_map verdict_line log ≡ flat_map verdict_line (verdicts log)
verdict_lines [] = refl
verdict_lines (Done ∷ log) = ap (λ l. verdict_line Done ++ l) (verdict_lines log)
verdict_lines (NoPacket ∷ log) = ap (λ l. verdict_line NoPacket ++ l) (verdict_lines log)
verdict_lines (Low ∷ log) = verdict_lines log
verdict_lines (High ∷ log) = verdict_lines log
verdict_lines (Inner note ∷ log) = verdict_lines log

pub verdict_is : (came : Bool) (log : List TwoNote) → verdicts log ≡ (if came then Done ∷ [] else NoPacket ∷ []) → flat_map verdict_line log ≡ verdict_text came
verdict_is true log is = verdict_lines log ∙ ap (flat_map verdict_line) is ∙ append-nil (verdict_text true)
verdict_is false log is = verdict_lines log ∙ ap (flat_map verdict_line) is ∙ append-nil (verdict_text false)

-- one that stands in a part stands in the whole
any_later : (test : ℕ → Bool) (ms ns : List ℕ) → list_any test ns ≡ true → list_any test (ms ++ ns) ≡ true
any_later test ms ns some = list_any-append test ms ns ∙ ap (λ b. list_any test ms || b) some ∙ or-true (list_any test ms)

any_before : (test : ℕ → Bool) (ms ns : List ℕ) → list_any test ms ≡ true → list_any test (ms ++ ns) ≡ true
any_before test ms ns some = list_any-append test ms ns ∙ ap (λ b. b || list_any test ns) some

any_dropped : (test : ℕ → Bool) (n : ℕ) (log : List TwoNote) → list_any test (arrivals_in (inner_notes (drop n log))) ≡ true
    → list_any test (arrivals_in (inner_notes log)) ≡ true
any_dropped test zero log some = some
any_dropped test (suc n) [] some = some
any_dropped test (suc n) (x ∷ log) some =
    ap (λ l. list_any test (arrivals_in l)) (filter_map-append inner_note (x ∷ []) log)
    ∙ ap (list_any test) (arrived-append (inner_notes (x ∷ [])) (inner_notes log))
    ∙ any_later test (arrivals_in (inner_notes (x ∷ []))) (arrivals_in (inner_notes log)) (any_dropped test n log some)

module _ {R : Type 0} (f : Semantics R) (job : UpdateJob) where
  matched_is : (ps : List Packet) → Each (λ p. packet_numbered (items_of job) p.number ≡ p) ps
      → list_any (is_matched job) (map (λ p. p.number) ps) ≡ list_any (is_moved (two_subject f job) job.filter) ps
  matched_is [] each = refl
  matched_is (p ∷ ps) each =
      ap (λ (q : Packet). matches job.filter (flow_of job.site q).0 || list_any (is_matched job) (map (λ r. r.number) ps)) each.0
      ∙ ap (λ b. is_moved (two_subject f job) job.filter p || b) (matched_is ps each.1)

  pub some_moved : (log : List TwoNote) → IsFront (arrivals_in (inner_notes log)) (trace job)
      → Each (λ p. packet_numbered (items_of job) p.number ≡ p) job.packets
      → has_come job (after_low log) ≡ true → list_any (is_moved (two_subject f job) job.filter) job.packets ≡ true
  some_moved log front each came =
      sym (matched_is job.packets each) ∙ ap (list_any (is_matched job)) (sym front.whole)
      ∙ any_before (is_matched job) (arrivals_in (inner_notes log)) front.rest (any_dropped (is_matched job) (position_or_len is_low log + 1) log came)
