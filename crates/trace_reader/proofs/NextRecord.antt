-- The answers of `read_record`, branch by branch of `next_of`.
use Rattle.std.proofs.Common.{◌≡◌, ℕ, ◌+◌, ◌-◌, ◌≤◌, ◌<◌, min, Bool, true, false, List, [], Option, None, Some}
use Rattle.std.proofs.Common.{Ok, Err, length, take, drop, refl, ap, sym, ◌∙◌, subst, arith, length-drop}
use Rattle.std.proofs.Math.Seq.{take-length, drop-length}
use Rattle.std.proofs.lemmas.List.{drop-drop, drop-take, length-take, length-take-le}
use lib.Seq.{take-take}
use Rattle.std.specs.Prelude.{if◌then◌else◌, nat_lt}
use Rattle.std.specs.Io.{StartsWith}
use Rattle.std.specs.Io.KnownBytes.{Consumes}
use Rattle.std.proofs.lemmas.Bool.{leb-true, leb-false, le-leb}
use Rattle.std.proofs.lemmas.Bool.Decides.{nat_tests}
use Rattle.trace_reader.specs.declared.form.Form.{Form}
use Rattle.trace_reader.specs.declared.fault.TraceFault.TheVariants as fault
use Rattle.trace_reader.specs.declared.fault.TraceFault.{TraceFault}
use Rattle.trace_reader.specs.declared.record.Next.{Next}
use Rattle.trace_reader.specs.Answers.{Reading, reading, AnswersAt, Advances}
use Rattle.trace_reader.specs.declared.record.Next.TheVariants as next
use Rattle.trace_reader.specs.Takes.{Fills, TakesBody, body}
use Rattle.trace_reader.specs.Records.{next_of, record_size}
use Rattle.trace_reader.specs.Opened.{byte_at, captured_of, record_answer}
use Rattle.trace_reader.proofs.SourceReads.{skipped_more}
use Rattle.trace_reader.proofs.RecordFront.{record_answer-front}

-- what a whole record gives by a name of its own
by_answer : (form : Form) (place count : ℕ) (bytes : List ℕ)
    → next_of form place count bytes
    ≡ (if nat_lt 0 (length bytes) then
    (if nat_lt (length bytes) 16 then Ok next.Cut
    else if nat_lt 262144 (captured_of form (take 16 bytes)) then Err (fault.RecordLength place (captured_of form (take 16 bytes)))
    else if nat_lt (length bytes) (16 + captured_of form (take 16 bytes)) then Ok next.Cut
    else record_answer form place count (take 16 bytes) (captured_of form (take 16 bytes)) (take (captured_of form (take 16 bytes)) (drop 16 bytes)))
    else Ok next.End)
unfolding next_of record_answer
by_answer form place count bytes = refl

pub next_of-end : (form : Form) (place count : ℕ) (bytes : List ℕ) → length bytes ≡ 0 → next_of form place count bytes ≡ Ok next.End
next_of-end form place count bytes none = rw (by_answer form place count bytes) (grind (arith, nat_tests))

next_of-short : (form : Form) (place count : ℕ) (bytes : List ℕ) → 0 < length bytes → length bytes < 16 → next_of form place count bytes ≡ Ok next.Cut
next_of-short form place count bytes some few = rw (by_answer form place count bytes) (grind (arith, nat_tests))

next_of-long : (form : Form) (place count n : ℕ) (bytes : List ℕ) → n ≡ captured_of form (take 16 bytes) → 16 ≤ length bytes → 262144 < n
    → next_of form place count bytes ≡ Err (fault.RecordLength place n)
next_of-long form place count n bytes is enough long = rw (by_answer form place count bytes) (grind (arith, nat_tests))

next_of-cut : (form : Form) (place count n : ℕ) (bytes : List ℕ) → n ≡ captured_of form (take 16 bytes) → 16 ≤ length bytes → n ≤ 262144
    → length bytes < 16 + n → next_of form place count bytes ≡ Ok next.Cut
next_of-cut form place count n bytes is enough fits few = rw (by_answer form place count bytes) (grind (arith, nat_tests))

pub next_of-whole : (form : Form) (place count n : ℕ) (bytes : List ℕ) → n ≡ captured_of form (take 16 bytes) → 16 ≤ length bytes → n ≤ 262144
    → 16 + n ≤ length bytes → next_of form place count bytes ≡ record_answer form place count (take 16 bytes) n (take n (drop 16 bytes))
next_of-whole form place count n bytes is enough fits all = rw (by_answer form place count bytes) (grind (arith, nat_tests))

-- the source ended in the head: then n bytes were left
pub head_short : (a b : Option (List ℕ)) (head bytes : List ℕ) (n : ℕ) → Fills a b head n → a ≡ Some bytes → n < length head
    → (length bytes ≡ n) × (b ≡ Some [])
head_short a b head bytes n fills told short =
    let f = fills bytes told in
    let all : n ≡ length bytes = omega (arith, f.0) in
    (sym all, f.2 ∙ ap Some (ap (λ m. drop m bytes) all ∙ drop-length bytes))

-- a whole head was read
pub record HeadTaken (bytes : List ℕ) (b : Option (List ℕ)) (head : List ℕ) : Type 0 where
  pub enough : 16 ≤ length bytes
  pub same : head ≡ take 16 bytes
  pub left : b ≡ Some (drop 16 bytes)

pub head_taken : (a b : Option (List ℕ)) (head bytes : List ℕ) (n : ℕ) → Fills a b head n → a ≡ Some bytes → length head ≡ 16 → 16 ≤ n → HeadTaken bytes b head
head_taken a b head bytes n fills told long full =
    let f = fills bytes told in
    let is : n ≡ 16 = omega (arith, f.0) in
    record {
      enough = omega (arith, f.0);
      same = sym (take-length head) ∙ ap (λ k. take k head) (long ∙ sym is) ∙ f.1 ∙ ap (λ k. take k bytes) is;
      left = f.2 ∙ ap (λ k. Some (drop k bytes)) is;
    }

pub gives_end : (form : Form) (place count : ℕ) (a b : Option (List ℕ)) (head bytes : List ℕ) (n : ℕ) → Fills a b head n → a ≡ Some bytes → length head ≡ 16
    → n ≡ 0 → (next_of form place count bytes ≡ Ok next.End) × (b ≡ Some [])
gives_end form place count a b head bytes n fills told long none =
    let short = head_short a b head bytes n fills told (omega arith) in
    (next_of-end form place count bytes (short.0 ∙ none), short.1)

pub gives_short : (form : Form) (place count : ℕ) (a b : Option (List ℕ)) (head bytes : List ℕ) (n : ℕ) → Fills a b head n → a ≡ Some bytes → length head ≡ 16
    → (n ≡ 0 → ⊥) → n < 16 → (next_of form place count bytes ≡ Ok next.Cut) × (b ≡ Some [])
gives_short form place count a b head bytes n fills told long some few =
    let short = head_short a b head bytes n fills told (omega arith) in
    (next_of-short form place count bytes (omega (arith, short.0, some)) (omega (arith, short.0)), short.1)

pub gives_long : (form : Form) (place count n : ℕ) (b : Option (List ℕ)) (head bytes : List ℕ) → HeadTaken bytes b head → n ≡ captured_of form head → 262144 < n
    → next_of form place count bytes ≡ Err (fault.RecordLength place n)
gives_long form place count n b head bytes h is long =
    next_of-long form place count n bytes (is ∙ ap (captured_of form) h.same) h.enough long

pub gives_cut : (form : Form) (place count n : ℕ) (b c : Option (List ℕ)) (head front bytes : List ℕ) → HeadTaken bytes b head → n ≡ captured_of form head
    → n ≤ 262144 → (whole : Bool) → TakesBody b c (body front n) whole → whole ≡ false → (next_of form place count bytes ≡ Ok next.Cut) × (c ≡ Some [])
gives_cut form place count n b c head front bytes h is fits whole takes no_body =
    let t = subst (TakesBody b c (body front n)) no_body takes (drop 16 bytes) h.left in
    let few : length (drop 16 bytes) < n = leb-false n (length (drop 16 bytes)) (sym t.0) in
    (next_of-cut form place count n bytes (is ∙ ap (captured_of form) h.same) h.enough fits (omega (arith, h.enough, length-drop 16 bytes, few)), t.1)

pub gives_whole : (form : Form) (place count n : ℕ) (b c : Option (List ℕ)) (head front bytes : List ℕ) → HeadTaken bytes b head → n ≡ captured_of form head
    → n ≤ 262144 → length front ≡ min n 202 → ((i : ℕ) → byte_at front i < 256)
    → (there : Bool) → TakesBody b c (body front n) there → there ≡ true
    → (next_of form place count bytes ≡ record_answer form place count head n front) × (16 + n ≡ record_size form bytes)
    × (c ≡ Some (drop (record_size form bytes) bytes))
gives_whole form place count n b c head front bytes h is fits long small there takes yes_body =
    let t = subst (TakesBody b c (body front n)) yes_body takes (drop 16 bytes) h.left in
    let captured : n ≡ captured_of form (take 16 bytes) = is ∙ ap (captured_of form) h.same in
    let all : n ≤ length (drop 16 bytes) = leb-true n (length (drop 16 bytes)) (sym t.0) in
    let size : 16 + n ≡ record_size form bytes = ap (λ m. 16 + m) captured in (
      next_of-whole form place count n bytes captured h.enough fits (omega (arith, h.enough, length-drop 16 bytes, all))
          ∙ ap (λ l. record_answer form place count l n (take n (drop 16 bytes))) (sym h.same)
          ∙ sym (record_answer-front form place count head n front (drop 16 bytes) long t.1.0 small),
      size,
      t.1.1 ∙ ap Some (drop-drop n 16 bytes ∙ ap (λ m. drop m bytes) size),
    )

-- bytes that are at hand are those that are left
ahead_is : (bytes ahead : List ℕ) (i k : ℕ) → StartsWith bytes ahead → i + k ≤ length ahead → take k (drop i ahead) ≡ take k (drop i bytes)
ahead_is bytes ahead i k begins within =
    let all : i + (length ahead - i) ≡ length ahead = omega arith in
    ap (λ l. take k (drop i l)) (sym begins) ∙ ap (λ m. take k (drop i (take m bytes))) (sym all)
    ∙ ap (take k) (drop-take i (length ahead - i) bytes) ∙ take-take k (length ahead - i) (drop i bytes) (omega arith)

-- the bytes at hand begin with a whole record of n bytes, which isn't too long
pub gives_at_hand : (form : Form) (place count n : ℕ) (bytes ahead front : List ℕ) → StartsWith bytes ahead
    → (n ≡ captured_of form (take 16 ahead)) × (n ≤ 262144) × (16 + n ≤ length ahead)
    → front ≡ take (min n 202) (drop 16 ahead) → ((i : ℕ) → byte_at front i < 256)
    → (next_of form place count bytes ≡ record_answer form place count (take 16 ahead) n front) × (16 + n ≡ record_size form bytes)
gives_at_hand form place count n bytes ahead front begins found is small =
    let all : 16 + n ≤ length ahead = found.2 in
    let long : length ahead ≤ length bytes = omega (arith, length-take (length ahead) bytes, ap length begins) in
    let head : take 16 ahead ≡ take 16 bytes = ahead_is bytes ahead 0 16 begins (omega (arith, all)) in
    let same : front ≡ take (min n 202) (drop 16 bytes) = is ∙ ahead_is bytes ahead 16 (min n 202) begins (omega (arith, all)) in
    let count_is : length front ≡ min n 202 = ap length is ∙ length-take-le (min n 202) (drop 16 ahead) (omega (arith, length-drop 16 ahead, all)) in
    let taken : HeadTaken bytes (Some (drop 16 bytes)) (take 16 ahead) = record { enough = omega (arith, all); same = head; left = refl } in
    let whole : TakesBody (Some (drop 16 bytes)) (Some (drop n (drop 16 bytes))) (body front n) true = λ rest told.
    let is_rest : rest ≡ drop 16 bytes = cc in (
      sym (le-leb n (length rest) (omega (arith, ap length is_rest, length-drop 16 bytes, all))),
      (same ∙ ap (λ k. take k (drop 16 bytes)) (sym count_is) ∙ ap (take (length front)) (sym is_rest), ap (λ l. Some (drop n l)) (sym is_rest)),
    ) in
    let gives = gives_whole form place count n (Some (drop 16 bytes)) (Some (drop n (drop 16 bytes))) (take 16 ahead) front bytes taken found.0 found.1
    count_is small true whole refl in
    (gives.0, gives.1)

-- bytes at hand were taken
pub skipped_ahead : (a b : Option (List ℕ)) (bytes ahead : List ℕ) (k : ℕ) → a ≡ Some bytes → k ≤ length ahead → Consumes a b (take k ahead)
    → b ≡ Some (drop k bytes)
skipped_ahead a b bytes ahead k told within consumes =
    let skipped = skipped_more a b bytes ahead 0 k (omega arith) told within consumes in
    let same : 0 + k ≡ k = omega arith in
    skipped.1 ∙ ap (λ m. Some (drop m bytes)) same

-- a fault that is due is answered
pub gives_fault : (before : Reading) (bytes : List ℕ) (after : Reading) (e : TraceFault)
    → next_of before.form before.place before.count bytes ≡ Err e → AnswersAt before bytes after (Err e)
gives_fault before bytes after fault.Read due = tt
gives_fault before bytes after e due = due

-- a record that is due is answered, and takes its bytes
pub gives_record : (before : Reading) (count n : ℕ) (bytes : List ℕ) (left : Option (List ℕ)) (answer : Next)
    → next_of before.form before.place before.count bytes ≡ Ok answer
    → Advances (reading before.form before.place before.count None) (reading before.form (before.place + (16 + n)) count None) (Ok answer)
    → 16 + n ≡ record_size before.form bytes → left ≡ Some (drop (record_size before.form bytes) bytes)
    → AnswersAt before bytes (reading before.form (before.place + (16 + n)) count left) (Ok answer)
gives_record before count n bytes left next.End due moves size rest = absurd (omega (arith, moves.0))
gives_record before count n bytes left next.Cut due moves size rest = absurd (omega (arith, moves.0))
gives_record before count n bytes left answer due moves size rest = (due, ap (λ m. before.place + m) size, rest)
