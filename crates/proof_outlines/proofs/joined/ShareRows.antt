-- Each row of a share's table leaves a share that is open in a run such a one, and so does what is then served; what both send is such as comes
-- in a run.
use Rattle.proof_outlines.proofs.Words.{◌≡◌, ℕ, ◌<◌, Bool, true, false, List, [], ◌∷◌, map, length, refl, sym, subst, arith, if◌then◌else◌, ◌==◌, ◌-◌, nat_lt}
use Rattle.proof_outlines.proofs.Words.{unwrap_or, keys_of, Decides-eqb, Chunk, Semantics, same_unit, FullCell, Msg, instance_node, SharePhase, SharePlan}
use Rattle.proof_outlines.proofs.Words.{ShareState, ShareRow, Served, home, others, syncs, setting, syncing, on_fenced, on_chunks, on_shared, on_synced}
use Rattle.proof_outlines.proofs.Words.{member_of, service_if_idle, EachSent, Each, has, split, by_if, Unit, IsDistinct}
use Rattle.copy_share.specs.Share.{next_phase, row}
use Rattle.proof_outlines.proofs.joined.Words.{is_whole, entries, is_sharing, Given, Genuine, IsShare, IsOutAt, IsGoodChunk, AreGoodChunks, Label, count}

-- what holds of each member holds of one
each_has : (P : ℕ → Type 0) (ms : List ℕ) (k : ℕ) → Each P ms → has ms k ≡ true → P k
each_has P [] k h is = cc
each_has P (m ∷ ms) k h is = split (k == m) (λ b. (if b then true else has ms k) ≡ true → P k) (λ on _. subst P (sym ((Decides-eqb k m).0 on)) h.0)
    (λ _ rest. each_has P ms k h.1 rest) is

module _ {R : Type 0} (f : Semantics R) (g : Given) where
  -- the record of one unit
  pub one_chunk : (chunk : Chunk) → IsGoodChunk f g chunk → AreGoodChunks f g (chunk ∷ [])
  unfolding IsDistinct
  one_chunk chunk good = record { each = (good, tt); distinct = subst (λ es. IsDistinct same_unit (keys_of es)) (sym one) (alone good.chunk.entry) }
    where
      one : entries f (chunk ∷ []) ≡ good.chunk.entry ∷ []
      one = let spells = good.chunk.spells in rw spells refl

      alone : (e : Unit × R) → IsDistinct same_unit (keys_of (e ∷ []))
      alone e = (tt, tt)

  -- what a row leaves of a share's phase, and sends
  pub record RowIs (members : List ℕ) (r : ShareRow) : Type 0 where
    pub out : IsOutAt f g members r.phase
    pub labels : EachSent (Label f g) 1 r.sends

  module _ (plan : SharePlan) (whole : is_whole f.kind plan.filter ≡ true) where
    abbrev Rows : ShareRow → Type 0
    Rows r = RowIs plan.members r

    syncs_each : (chunks : List Chunk) → AreGoodChunks f g chunks → (ms : List ℕ)
        → EachSent (Label f g) 1 (map (λ member. (instance_node member, Msg.Sync (member == home plan) plan.op chunks)) ms)
    syncs_each chunks good [] = tt
    syncs_each chunks good (m ∷ ms) = (((refl, omega arith), good), syncs_each chunks good ms)

    rests : (ph : SharePhase) → IsOutAt f g plan.members ph → Rows (next_phase ph [])
    rests ph out = record { out = out; labels = tt }

    setting_is : (left : ℕ) (sends : List (ℕ × Msg)) → EachSent (Label f g) 1 sends → Rows (setting left sends)
    setting_is left sends labels = by_if Rows (left == 0) (record { out = tt; labels = labels }) (record { out = tt; labels = labels })

    syncing_is : (left : ℕ) (sends : List (ℕ × Msg)) → EachSent (Label f g) 1 sends → Rows (syncing left sends)
    syncing_is left sends labels = by_if (λ r. Rows (next_phase r sends)) (left == 0) (record { out = tt; labels = labels })
        (record { out = tt; labels = labels })

    fenced_is : (ph : SharePhase) → IsOutAt f g plan.members ph → Rows (on_fenced plan ph)
    fenced_is SharePhase.Fencing out = record { out = tt; labels = (((refl, omega arith), whole), tt) }
    fenced_is ph out = rests ph out

    chunks_is : (ph : SharePhase) (chunks : List Chunk) → IsOutAt f g plan.members ph → AreGoodChunks f g chunks → Rows (on_chunks plan ph chunks)
    chunks_is SharePhase.Getting chunks out good =
        setting_is (length (others plan (home plan))) (syncs plan (home plan) chunks) (syncs_each chunks good (others plan (home plan)))
    chunks_is ph chunks out good = rests ph out

    shared_is : (ph : SharePhase) (sender : ℕ) (chunk : Chunk) → IsOutAt f g plan.members ph → IsGoodChunk f g chunk → Rows (on_shared plan ph sender chunk)
    shared_is (SharePhase.Out member) sender chunk out good = by_if Rows (sender == instance_node member)
        (syncing_is (length (others plan member)) (syncs plan member (chunk ∷ []))
        (syncs_each (chunk ∷ []) (one_chunk chunk good) (others plan member)))
        (rests (SharePhase.Out member) out)
    shared_is ph sender chunk out good = rests ph out

    synced_is : (ph : SharePhase) → IsOutAt f g plan.members ph → Rows (on_synced ph)
    synced_is (SharePhase.Setting left) out = setting_is (left - 1) [] tt
    synced_is (SharePhase.Syncing left) out = syncing_is (left - 1) [] tt
    synced_is ph out = rests ph out

    either_is : (b : Bool) (r : ShareRow) (ph : SharePhase) → IsOutAt f g plan.members ph → Rows r → Rows (if b then r else next_phase ph [])
    either_is true r ph out h = h
    either_is false r ph out h = rests ph out

    row_is : (ph : SharePhase) (sender : ℕ) (m : Msg) → IsOutAt f g plan.members ph → Label f g sender 1 m
        → Rows (row (record { plan = plan; phase = ph }) sender m)
    row_is ph sender (Msg.Fenced op) out label = either_is (sender == instance_node (home plan)) (on_fenced plan ph) ph out (fenced_is ph out)
    row_is ph sender (Msg.Chunks op chunks) out label =
        either_is (sender == instance_node (home plan)) (on_chunks plan ph chunks) ph out (chunks_is ph chunks out label.1)
    row_is ph sender (Msg.Shared op chunk) out label = shared_is ph sender chunk out label.1
    row_is ph sender (Msg.Synced op) out label = synced_is ph out
    row_is ph sender m out label = rests ph out

  -- what is served
  record ServedIs (members : List ℕ) (cells : List FullCell) (next : Served) : Type 0 where
    out : IsOutAt f g members next.phase
    labels : EachSent (Label f g) 1 next.sends
    genuine : Each (Genuine f g) (unwrap_or next.stored cells)

  module _ (plan : SharePlan) (few : Each (λ member. nat_lt member (count f g) ≡ true) plan.members) (some : 1 < length plan.members) where
    member_in : (cell : FullCell) → has plan.members (member_of plan cell) ≡ true
    member_in cell = (is_sharing f plan.site (λ k. cell.packet)).member_in plan.members 0 (omega (arith, some))

    served_is : (ph : SharePhase) (cells : List FullCell) → IsOutAt f g plan.members ph → Each (Genuine f g) cells
        → ServedIs plan.members cells (service_if_idle plan ph cells)
    served_is SharePhase.Idle (cell ∷ cells) out genuine = record {
      out = member_in cell;
      labels = (
        ((refl, refl), each_has (λ member. nat_lt member (count f g) ≡ true) plan.members (member_of plan cell) few (member_in cell), refl, genuine.0),
        tt,
      );
      genuine = genuine.1;
    }
    served_is SharePhase.Idle [] out genuine = record { out = out; labels = tt; genuine = genuine }
    served_is ph cells out genuine = record { out = out; labels = tt; genuine = genuine }

  -- an open share in another phase
  moved_on : (op : ℕ) (s : ShareState) (ph : SharePhase) → IsShare f g op s → IsOutAt f g s.plan.members ph → IsShare f g op (record s { phase = ph })
  moved_on op s ph is out = record { op_is = is.op_is; few = is.few; some = is.some; distinct = is.distinct; whole = is.whole; plan = is.plan; out = out }

  -- A share after what is served in a phase, the packets that it leaves, and what is sent.
  pub record ServesWell (op : ℕ) (s : ShareState) (ph : SharePhase) (cells : List FullCell) : Type 0 where
    pub share : IsShare f g op (record s { phase = (service_if_idle s.plan ph cells).phase })
    pub labels : EachSent (Label f g) 1 (service_if_idle s.plan ph cells).sends
    pub genuine : Each (Genuine f g) (unwrap_or (service_if_idle s.plan ph cells).stored cells)

  pub serves_well : (op : ℕ) (s : ShareState) (ph : SharePhase) (cells : List FullCell) → IsShare f g op s → IsOutAt f g s.plan.members ph
      → Each (Genuine f g) cells → ServesWell op s ph cells
  serves_well op s ph cells is out genuine =
      let next = served_is s.plan is.few is.some ph cells out genuine in
      record { share = moved_on op s (service_if_idle s.plan ph cells).phase is next.out; labels = next.labels; genuine = next.genuine }

  -- and after a message, before it serves
  pub turns_well : (op : ℕ) (s : ShareState) (sender : ℕ) (m : Msg) → IsShare f g op s → Label f g sender 1 m → RowIs s.plan.members (row s sender m)
  turns_well op s sender m is label = row_is s.plan is.whole s.phase sender m is.out label
