-- A chunk of a unit that is on its way goes with the number of the unit's move, as the unit's seat has it.
use Rattle.nf_net.proofs.Words.{◌≡◌, ◌≢◌, ℕ, zero, suc, ◌<◌, Bool, true, false, cond, Option, Some, None, List, [], ◌∷◌, ◌++◌, map, refl, sym, ap, ◌∙◌, subst}
use Rattle.nf_net.proofs.Words.{◌==◌, option_to_list, option_map_or, filter_map, flat_map, Decides-eqb, map-append, Chunk, Semantics, same_unit, spelled}
use Rattle.nf_net.proofs.Words.{same_unit_equiv, Msg, Note, op_of, Operation, Network, on_link, EachOn, Each, each-append, record_at, seat_shape, Seeing, olds}
use Rattle.nf_net.proofs.Words.{Node, Controller, Switch, on_links, chunks_in, kept_for, kept_by, is_chunk_of, spelled_of, chunks_on_way, entries, is_sys}
use Rattle.nf_net.proofs.Words.{given, Given, S, shown, Label, AreGoodChunks, node_of, Unit, split}
use Rattle.std.specs.Prelude.{filter}
use Rattle.std.specs.FinMap as finite
use Rattle.proof_machines.proofs.net.Holding.{Label as Seen_label}
use Rattle.proof_machines.proofs.net.Units.{see}
use Rattle.nf_net.proofs.paths.ChunkLemmas.{as_spelled, good_spelled}
use Rattle.nf_net.proofs.paths.ChunkLinks.{MayBe, first_of_link}
use Rattle.nf_net.proofs.paths.ChunkPlaces.{none_in_others}
use Rattle.nf_net.proofs.paths.PathNodes.{each_entry}
use Rattle.nf_net.proofs.RunWords.{labels, link_shown, on_each, Seated, each_place, each_link, Reached, IsApart}
use Rattle.nf_net.specs.NumberedChunks.{numbered, numbered_in, numbered_by, numbered_on_way}

-- Without their numbers, they are the chunks on their way.
abbrev pub bare : Option ℕ × Chunk → Chunk
bare x = x.1

without_number : (number : Option ℕ) (cs : List Chunk) → map bare (numbered number cs) ≡ cs
without_number number [] = refl
without_number number (c ∷ cs) = ap (λ v. c ∷ v) (without_number number cs)

all_same : {X Y Z : Type 0} (h : Y → Z) (of : X → List Y) (to : X → List Z) → ((x : X) → map h (of x) ≡ to x) → (xs : List X)
    → map h (flat_map of xs) ≡ flat_map to xs
all_same h of to is [] = refl
all_same h of to is (x ∷ xs) =
    map-append h (of x) (flat_map of xs) ∙ ap (λ v. v ++ map h (flat_map of xs)) (is x) ∙ ap (λ v. to x ++ v) (all_same h of to is xs)

module _ {F R : Type 0} where
  kept_same : (node : Node F R) → map bare (numbered_by node) ≡ kept_by node
  kept_same (Controller c) = all_same bare (λ e. numbered (Some e.0) (kept_for e.1)) (λ e. kept_for e.1) (λ e. without_number (Some e.0) (kept_for e.1))
      (finite.entries c.operations)
  kept_same node = refl

  pub same_chunks : (w : Network (Node F R) Msg Note) → map bare (numbered_on_way w) ≡ chunks_on_way w
  same_chunks w =
      map-append bare (on_links w numbered_in) (flat_map numbered_by w.nodes)
      ∙ ap (λ v. v ++ map bare (flat_map numbered_by w.nodes)) (all_same bare (flat_map numbered_in) (flat_map chunks_in)
      (all_same bare numbered_in chunks_in (λ m. without_number (op_of m) (chunks_in m))) w.links)
      ∙ ap (λ v. on_links w chunks_in ++ v) (all_same bare numbered_by kept_by kept_same w.nodes)

-- The unit's chunks among those of a message have the unit's number, where other numbers have none of its chunks.
pub shorter : {R : Type 0} (f : Semantics R) (b : Bool) (c : Chunk) (cs : List Chunk) → map (spelled f) (cond b (c ∷ cs) cs) ≡ [] → map (spelled f) cs ≡ []
shorter f true c cs e = cc
shorter f false c cs e = e

-- a chunk of the unit has this number
abbrev pub IsOwn : Unit → ℕ → Option ℕ × Chunk → Type 0
IsOwn u own x = x.1.unit ≡ Some u → x.0 ≡ Some own

module _ {R : Type 0} (f : Semantics R) (u : Unit) (own : ℕ) where
  some_spelled : (c : Chunk) (cs : List Chunk) → c.unit ≡ Some u → spelled_of f u (c ∷ cs) ≢ []
  some_spelled c cs is_unit none =
      let same : is_chunk_of u c ≡ true = ap (λ o. option_map_or (same_unit u) o false) is_unit ∙ same_unit_equiv.refl u in
      let there : spelled f c ∷ spelled_of f u cs ≡ [] =
      ap (λ b. map (spelled f) (cond b (c ∷ filter (is_chunk_of u) cs) (filter (is_chunk_of u) cs))) (sym same) ∙ none in
      cc

  pub all_own : (n : ℕ) (cs : List Chunk) → ((n == own) ≡ false → spelled_of f u cs ≡ []) → Each (IsOwn u own) (numbered (Some n) cs)
  all_own n [] none = tt
  all_own n (c ∷ cs) none = (
    λ is_unit. split (n == own) (λ _. ◌≡◌ {A = Option ℕ} (Some n) (Some own)) (λ on. ap Some ((Decides-eqb n own).0 on))
        (λ off. absurd (some_spelled c cs is_unit (none off))),
    all_own n cs (λ off. shorter f (is_chunk_of u c) c (filter (is_chunk_of u) cs) (none off)),
  )

-- On a link, by what the unit knows of each message there.
module _ {R : Type 0} (f : Semantics R) (g : Given) (z : Seeing) where
  good_own : (n : ℕ) (cs : List Chunk) → AreGoodChunks f g cs → ((n == z.op.num) ≡ false → record_at z.unit (entries f cs) ≡ None)
      → Each (IsOwn z.unit z.op.num) (numbered (Some n) cs)
  good_own n cs good none = all_own f z.unit z.op.num n cs (λ off. good_spelled f g z.unit cs good ∙ ap (λ o. as_spelled z.unit (option_to_list o)) (none off))

  msg_own : (s r : ℕ) (m : Msg) → Label f g s r m → MayBe f g z [] s (shown f g m) → Each (IsOwn z.unit z.op.num) (numbered_in m)
  msg_own s r (Msg.Piece op piece) l k = good_own op piece.chunks l.1.good k.1
  msg_own s r (Msg.Put op piece first) l k = good_own op piece.chunks l.1.good k.1
  msg_own s r (Msg.Restore op chunks) l k = good_own op chunks l.1 k.1
  msg_own s r (Msg.PutNo op refused) l k = good_own op refused.chunks l.1 k.1
  msg_own s r m l k = tt

  pub link_own : (s r : ℕ) (ms : List Msg) → EachOn (Label f g s r) ms → Each (Seen_label (S f g) z s) (olds (filter_map (shown f g) ms))
      → Each (IsOwn z.unit z.op.num) (flat_map numbered_in ms)
  link_own s r [] h k = tt
  link_own s r (m ∷ ms) h k =
      let both = first_of_link f g z [] s (shown f g m) (filter_map (shown f g) ms) k in
      each-append (IsOwn z.unit z.op.num) (numbered_in m) (flat_map numbered_in ms) (msg_own s r m h.0 both.0) (link_own s r ms h.1 both.1)

-- In a world.
module _ {F R : Type 0} (here : Reached F R) (u : Unit) (apart : IsApart here u) (k : Seated here u) where
  open here use {setting, n, w, nodes, j, world}
  open setting use {function as f}

  abbrev g : Given
  g = given setting

  abbrev z : Seeing
  z = see (S f g) (is_sys f g.site g.packet) u k.op k.third

  abbrev Own : Option ℕ × Chunk → Type 0
  Own = IsOwn u k.op.num

  on_own : (s r : ℕ) → s < n → r < n → Each Own (flat_map numbered_in (on_link w s r))
  on_own s r hs hr = on_each here (λ ms. Each Own (flat_map numbered_in ms)) tt s r (λ off. link_own f g z s r (on_link w s r) (labels here s r hs hr off)
      (subst (λ ms. Each (Seen_label (S f g) z s) (olds ms)) (link_shown here s r hs hr off) (k.holds.labels s r off)))

  kept_own : (i : ℕ) → Each Own (numbered_by (node_of j.nodes i))
  kept_own zero = tt
  kept_own (suc zero) = each_entry Own (λ op o. numbered (Some op) (kept_for o)) j.nodes.controller.operations by_got
    where
      by_got : (op : ℕ) (o : Operation) → finite.get j.nodes.controller.operations op ≡ Some o → Each Own (numbered (Some op) (kept_for o))
      by_got op o there = all_own f u k.op.num op (kept_for o) (λ off. none_in_others here u apart k.op k.third
          (seat_shape (S f g).F k.seat) k.holds op o (λ same. (let never : false ≡ true = sym off ∙ (Decides-eqb op k.op.num).1 same in cc)) there)
  kept_own (suc (suc i)) = tt

  pub own_on_way : Each Own (numbered_on_way w)
  own_on_way =
      let d : Node F R = Switch j.nodes.switch in
      each-append Own (on_links w numbered_in) (flat_map numbered_by w.nodes)
      (each_link w world.square Own (flat_map numbered_in) (λ s r hs hr. on_own s r (rw (← nodes) hs) (rw (← nodes) hr)))
      (each_place Own numbered_by w.nodes d (λ i small. subst (λ y. Each Own (numbered_by y)) (sym (j.nodes_are i (rw (← nodes) small) d)) (kept_own i)))
