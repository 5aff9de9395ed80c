-- What is written field by field is the text of the pieces, joined by commas.
use Rattle.std.proofs.Common.{◌≡◌, ℕ, Bool, true, false, ◌||◌, List, [], ◌∷◌, ◌++◌, Option, None}
use Rattle.std.proofs.Common.{Some, is_some, option_map, refl, ap, sym, ◌∙◌, append_assoc, append-nil}
use Rattle.std.specs.Prelude.{codes}
use Rattle.std.specs.List.{join_with_byte}
use Rattle.std.specs.Fmt.{decimal}
use Rattle.flow_filter.specs.declared.filter.Filter.{Filter}
use Rattle.flow_filter.specs.FilterText.{piece, pieces, after_commas, joined, protocol_text, prefix_text}

-- some piece is there
abbrev pub are_some : List (List ℕ) → Bool
are_some [] = false
are_some (first ∷ more) = true

pub after_commas-append : (begun : Bool) (done more : List (List ℕ))
    → after_commas begun (done ++ more) ≡ after_commas begun done ++ after_commas (begun || are_some done) more
after_commas-append true [] more = refl
after_commas-append false [] more = refl
after_commas-append true (first ∷ done) more =
    ap (λ t. (44 ∷ first) ++ t) (after_commas-append true done more) ∙ sym (append_assoc (44 ∷ first) (after_commas true done) (after_commas true more))
after_commas-append false (first ∷ done) more =
    ap (λ t. first ++ t) (after_commas-append true done more) ∙ sym (append_assoc first (after_commas true done) (after_commas true more))

-- the pieces written so far, and whether there are some
pub record Written (before after : List ℕ) (begun : Bool) (done : List (List ℕ)) : Type 0 where
  pub begins : begun ≡ are_some done
  pub text : after ≡ before ++ after_commas false done

some_piece : (begun : Bool) (name : List ℕ) (done : List (List ℕ)) (value : Option (List ℕ)) → begun ≡ are_some done
    → (begun || is_some value) ≡ are_some (done ++ piece name value)
some_piece begun name [] None is = rw is refl
some_piece begun name [] (Some value) is = rw is refl
some_piece begun name (first ∷ done) value is = rw is refl

-- one field more
pub write_piece : (before old new name : List ℕ) (begun after : Bool) (done : List (List ℕ)) (value : Option (List ℕ)) → Written before old begun done
    → after ≡ (begun || is_some value) → new ≡ old ++ after_commas begun (piece name value) → Written before new after (done ++ piece name value)
write_piece before old new name begun after done value so_far is text = record {
  begins = is ∙ some_piece begun name done value so_far.begins;
  text = text ∙ ap (λ t. t ++ after_commas begun (piece name value)) so_far.text
      ∙ append_assoc before (after_commas false done) (after_commas begun (piece name value))
      ∙ ap (λ t. before ++ t)
      (ap (λ b. after_commas false done ++ after_commas b (piece name value)) so_far.begins ∙ sym (after_commas-append false done (piece name value)));
}

pub join-after_commas : (first : List ℕ) (more : List (List ℕ)) → join_with_byte 44 (first ∷ more) ≡ first ++ after_commas true more
join-after_commas first [] = sym (append-nil first)
join-after_commas first (next ∷ more) = ap (λ t. first ++ (44 ∷ t)) (join-after_commas next more)

-- the end, where some field was written
pub written_some : (before after : List ℕ) (begun : Bool) (done : List (List ℕ)) → Written before after begun done → begun ≡ true
    → after ≡ before ++ joined done
written_some before after begun [] so_far is = let begins = so_far.begins in absurd cc
written_some before after begun (first ∷ more) so_far is = so_far.text ∙ ap (λ t. before ++ t) (sym (join-after_commas first more))

-- the end, where none was
pub written_none : (before after : List ℕ) (begun : Bool) (done : List (List ℕ)) → Written before after begun done → begun ≡ false
    → after ++ codes "any" ≡ before ++ joined done
written_none before after begun [] so_far is = ap (λ t. t ++ codes "any") (so_far.text ∙ append-nil before)
written_none before after begun (first ∷ more) so_far is = let begins = so_far.begins in absurd cc

is_some-map : {X Y : Type 0} → (g : X → Y) → (o : Option X) → is_some (option_map g o) ≡ is_some o
is_some-map g None = refl
is_some-map g (Some x) = refl

-- one field more, by what it prints of its value
write_field : {X : Type 0} → (g : X → List ℕ) → (before old new name : List ℕ) (begun after : Bool) (done : List (List ℕ)) (value : Option X)
    → Written before old begun done
    → after ≡ (begun || is_some value) → new ≡ old ++ after_commas begun (piece name (option_map g value))
    → Written before new after (done ++ piece name (option_map g value))
write_field g before old new name begun after done value so_far is text =
    write_piece before old new name begun after done (option_map g value) so_far (is ∙ ap (λ b. begun || b) (sym (is_some-map g value))) text

-- the five fields
pub write_fields : (f : Filter) (s0 s1 s2 s3 s4 s5 : List ℕ) (b1 b2 b3 b4 b5 : Bool)
    → (b1 ≡ is_some f.proto) × (s1 ≡ s0 ++ after_commas false (piece (codes "proto=") (option_map protocol_text f.proto)))
    → (b2 ≡ (b1 || is_some f.local)) × (s2 ≡ s1 ++ after_commas b1 (piece (codes "local=") (option_map prefix_text f.local)))
    → (b3 ≡ (b2 || is_some f.lport)) × (s3 ≡ s2 ++ after_commas b2 (piece (codes "lport=") (option_map decimal f.lport)))
    → (b4 ≡ (b3 || is_some f.remote)) × (s4 ≡ s3 ++ after_commas b3 (piece (codes "remote=") (option_map prefix_text f.remote)))
    → (b5 ≡ (b4 || is_some f.rport)) × (s5 ≡ s4 ++ after_commas b4 (piece (codes "rport=") (option_map decimal f.rport)))
    → Written s0 s5 b5 (pieces f)
unfolding pieces
write_fields f s0 s1 s2 s3 s4 s5 b1 b2 b3 b4 b5 proto local lport remote rport =
    let start : Written s0 s0 false [] = record { begins = refl; text = sym (append-nil s0) } in
    let first = write_field protocol_text s0 s0 s1 (codes "proto=") false b1 [] f.proto start proto.0 proto.1 in
    let second = write_field prefix_text s0 s1 s2 (codes "local=") b1 b2 _ f.local first local.0 local.1 in
    let third = write_field decimal s0 s2 s3 (codes "lport=") b2 b3 _ f.lport second lport.0 lport.1 in
    let fourth = write_field prefix_text s0 s3 s4 (codes "remote=") b3 b4 _ f.remote third remote.0 remote.1 in
    write_field decimal s0 s4 s5 (codes "rport=") b4 b5 _ f.rport fourth rport.0 rport.1
