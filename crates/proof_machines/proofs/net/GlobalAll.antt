-- What holds of the whole world for all units at once: numbers, filters that don't meet, and that each message of a share is of an open one
-- and says nothing beyond its filter. A Get and Chunks of a number that no share has are a copy's.
use Rattle.std.proofs.Common.{◌≡◌, ℕ, ◌<◌, true, false, Some, None, List, length, ◌⊎◌, sym, ◌∙◌}
use Rattle.std.specs.Prelude.{◌&&◌, ◌==◌}
use Rattle.proof_machines.proofs.unit.Real.{Chunks, record_at}
use Rattle.proof_machines.proofs.unit.Labels.{Each}
use Rattle.proof_machines.proofs.share.Share.{has}
use Rattle.flow_filter.specs.declared.filter.Filter.{Filter}
use Rattle.proof_machines.proofs.net.Net.{Sys, NumberedInstance, find_op}
use Rattle.proof_machines.proofs.net.Rest.{Global}
use Rattle.proof_machines.proofs.net.ShareLists.{AreNumbersApart}
use Rattle.proof_machines.proofs.net.Shares.{Any, ShareMsg, ShareMsg.Shared_on, ShareMsg.Diverted_on}
use Rattle.proof_machines.proofs.net.Shares.{EachNew, same, Sharing}
use Rattle.proof_machines.proofs.net.Shares.{OpenShare, find_share, share_taking, WholeWorld, moves_of}
use Rattle.nf_function.specs.declared.unit.Unit as units
use Rattle.std.proofs.lemmas.Bool.{false_from_ne_true}

-- an open share with the number, of which something holds
pub record Opened (es : List OpenShare) (n : ℕ) (P : OpenShare → Type 0) : Type 0 where
  pub share : OpenShare
  pub found : find_share es n ≡ Some share
  pub says : P share

-- numbers of what may be a copy's
abbrev pub Numbered : {R : Type 0} → ℕ → ShareMsg R → Type 0
Numbered b (ShareMsg.Get n g) = n < b
Numbered b (ShareMsg.Chunks n cs) = n < b
Numbered b m = Prim.Unit {0}

module _ {R : Type 0} (S : Sys R) where
  -- no unit is taken by both
  abbrev pub Disjoint : Filter → Filter → Type 0
  Disjoint g h = (v : units.Unit) → S.takes g v ≡ true → S.takes h v ≡ false

  pub disjoint_sym : (g h : Filter) → Disjoint g h → Disjoint h g
  disjoint_sym g h d v t =
      false_from_ne_true (S.takes g v) (λ on. let never : true ≡ false = sym t ∙ d v on in cc)

  -- chunks have nothing of a unit that the filter doesn't take
  abbrev pub Within : Filter → Chunks R → Type 0
  Within g cs = (v : units.Unit) → S.takes g v ≡ false → record_at v cs ≡ None

  abbrev pub TakesSome : List OpenShare → units.Unit → Type 0
  TakesSome es v = (e : OpenShare) × (share_taking S es v ≡ Some e)

  -- on a link to node j
  abbrev pub OfShare : List OpenShare → ℕ → ShareMsg R → Type 0
  OfShare es j (Shared_on n home p) = Opened es n (λ e. (S.takes e.filter (S.packet_unit p) ≡ true) × (same home (j == e.home) ≡ true))
  OfShare es j (Diverted_on p) = (j ≡ 1) × TakesSome es (S.packet_unit p)
  OfShare es j (ShareMsg.Asked x) = Prim.Unit {0}
  OfShare es j (ShareMsg.Install n g from) = Opened es n (λ e. (g ≡ e.filter) × (from ≡ e.home))
  OfShare es j (ShareMsg.Forward n home p to) =
      Opened es n (λ e. (S.takes e.filter (S.packet_unit p) ≡ true) × (has e.members to ≡ true) × (same home (to == e.home) ≡ true))
  OfShare es j (ShareMsg.Get n g) = (e : OpenShare) → find_share es n ≡ Some e → (g ≡ e.filter) × (j ≡ e.home)
  OfShare es j (ShareMsg.Sync n home cs) = Opened es n (λ e. Within e.filter cs × (same home (j == e.home) ≡ true))
  OfShare es j (ShareMsg.Chunks n cs) = (e : OpenShare) → find_share es n ≡ Some e → Within e.filter cs
  OfShare es j (ShareMsg.Shared n c) = Opened es n (λ e. S.takes e.filter c.0 ≡ true)
  OfShare es j (ShareMsg.Synced n) = Opened es n (λ e. Prim.Unit {0})

  module _ (A : Sharing S) where
    pub record GlobalAll (w : WholeWorld S A) : Type 0 where
      pub moves : Global S (moves_of S A w)
      pub messages : (i j : ℕ) → (i == 0) && (j == 0) ≡ false → EachNew (OfShare w.shares j) (w.link i j)
      pub numbers : (i j : ℕ) → (i == 0) && (j == 0) ≡ false → EachNew (Numbered w.next) (w.link i j)
      pub shares_below : Each (λ e. e.num < w.next) w.shares
      pub nums_apart : AreNumbersApart w.shares
      pub some : Each (λ e. 0 < length e.members) w.shares
      pub one_kind : (n : ℕ) → (find_op w.ops n ≡ None) ⊎ (find_share w.shares n ≡ None)
      pub apart_moves : Each (λ e. Each (λ o. Disjoint e.filter o.filter) w.ops) w.shares
      pub apart : (n k : ℕ) (d e : OpenShare) → find_share w.shares n ≡ Some d → find_share w.shares k ≡ Some e → (n == k) ≡ false → Disjoint d.filter e.filter
      pub queues : Each (λ e. Each (λ p. S.takes e.filter (S.packet_unit p) ≡ true) e.queue) w.shares

    -- where moves and shares are as they were
    pub same_shares : {w : WholeWorld S A} {target : units.Unit → ℕ} {next : ℕ} {inst : ℕ → NumberedInstance S} {standby : ℕ → S.B.T}
        {link : ℕ → ℕ → List (Any R)} {done : List (ℕ × ℕ)} → GlobalAll w
        → let v = record w { target = target; next = next; inst = inst; standby = standby; link = link; done = done } in Global S (moves_of S A v)
        → ((i j : ℕ) → (i == 0) && (j == 0) ≡ false → EachNew (OfShare w.shares j) (link i j))
        → ((i j : ℕ) → (i == 0) && (j == 0) ≡ false → EachNew (Numbered next) (link i j)) → Each (λ e. e.num < next) w.shares → GlobalAll v
    same_shares g moves messages numbers shares_below = record {
      moves = moves;
      messages = messages;
      numbers = numbers;
      shares_below = shares_below;
      nums_apart = g.nums_apart;
      some = g.some;
      one_kind = g.one_kind;
      apart_moves = g.apart_moves;
      apart = g.apart;
      queues = g.queues;
    }
