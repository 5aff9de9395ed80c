-- The answers of `TraceReader::open`.
use Rattle.std.proofs.Common.{◌≡◌, ℕ, min, List, Option, Some, Err, length, take, drop, ap, ◌∙◌}
use Rattle.std.proofs.lemmas.List.{take_min, drop_min}
use Rattle.trace_reader.specs.declared.fault.TraceFault.{TraceFault}
use Rattle.trace_reader.specs.declared.fault.TraceFault.TheVariants as fault
use Rattle.trace_reader.specs.Header.{form_of}
use Rattle.trace_reader.specs.Takes.{Fills}
use Rattle.trace_reader.specs.Opened.{opened}
use Rattle.trace_reader.specs.Answers.{AnswersOpen}

-- the header that was read is the first 24 bytes
pub opened_is : (a b : Option (List ℕ)) (header bytes : List ℕ) (n : ℕ) → Fills a b header n → a ≡ Some bytes → length header ≡ 24
    → form_of (take n header) ≡ opened bytes
opened_is a b header bytes n fills told long =
    let f = fills bytes told in
    let same : take n header ≡ take 24 bytes = f.1 ∙ ap (λ k. take k bytes) (f.0 ∙ ap (λ k. min k (length bytes)) long) ∙ take_min 24 bytes in
    ap form_of same

-- a fault that is due is answered
pub opened_fault : (bytes rest : List ℕ) (left : Option (List ℕ)) (e : TraceFault) → opened bytes ≡ Err e → AnswersOpen (opened bytes) rest left (Err e)
opened_fault bytes rest left fault.Read due = tt
opened_fault bytes rest left e due = due

-- exactly the first 24 bytes are gone
pub opened_rest : (a b : Option (List ℕ)) (header bytes : List ℕ) (n : ℕ) → Fills a b header n → a ≡ Some bytes → length header ≡ 24 → b ≡ Some (drop 24 bytes)
opened_rest a b header bytes n fills told long =
    let f = fills bytes told in
    f.2 ∙ ap Some (ap (λ k. drop k bytes) (f.0 ∙ ap (λ k. min k (length bytes)) long) ∙ drop_min 24 bytes)
