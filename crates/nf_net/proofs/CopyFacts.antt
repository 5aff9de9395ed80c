-- What is known of a copy's messages: that the source was asked, what it gave, and what was kept at the destination. It stays known as a run goes on.
use Rattle.nf_net.proofs.Words.{◌≡◌, ℕ, true, Some, List, [], ◌∷◌, ◌++◌, append_assoc, sym, ap, ◌∙◌, Chunk, Semantics, takes, Msg, Note, instance_node, Choice}
use Rattle.nf_net.proofs.Words.{Network, run, OnLinks, Config, Node, is_begun, IsFront, processed_of, job_of, node_step, live_at, StandsBy, exported_for}
use Rattle.nf_net.proofs.Words.{before_export, Unit, records_of, UnitCopy, IsOrdered, IsToGive}
use Rattle.std.specs.FinMap as finite
use Rattle.actor_net.proofs.WeightLaws.{Each}
use Rattle.net_world.specs.Jobs.{Job}
use Rattle.nf_net.proofs.JudgedFacts.{began_kept}
use Rattle.nf_net.proofs.VerdictLemmas.{exported_kept, before_export_kept}

module _ {F R : Type 0} (f : Semantics R) (c : Config) (items : List Msg) (start : Network (Node F R) Msg Note) where
  abbrev pub its_job : Job R
  its_job = job_of f c items

  abbrev pub world_after : List Choice → Network (Node F R) Msg Note
  world_after cs = run (node_step f) cs start

  -- the source gave what it had after some of these choices, and noted that
  pub record HasGiven (cs : List Choice) (log : List Note) (copy : UnitCopy) : Type 0 where
    pub before : List Choice
    pub later : List Choice
    pub whole : before ++ later ≡ cs
    pub to_give : IsToGive its_job (world_after before) copy
    pub rest : List Note
    pub log_is : log ≡ (world_after before).log ++ rest
    pub given : List Unit
    pub given_is : exported_for copy.op log ≡ Some given
    pub gave : before_export copy.op log ≡ (world_after before).log

  -- and these chunks bring it
  pub record AreGiven (cs : List Choice) (log : List Note) (copy : UnitCopy) (chunks : List Chunk) : Type 0 where
    pub by : HasGiven cs log copy
    pub bring : (u : Unit) (kept : R) → takes copy.filter u ≡ true → live_at (world_after by.before) copy.source u ≡ Some kept
        → finite.get (records_of f chunks) u ≡ Some kept

  -- what goes on from it stood by at the destination after some of these choices
  pub record WasKept (cs : List Choice) (log : List Note) (copy : UnitCopy) : Type 0 where
    pub by : HasGiven cs log copy
    pub until : List Choice
    pub since : List Choice
    pub whole : until ++ since ≡ cs
    pub stood : (u : Unit) (kept : R) → takes copy.filter u ≡ true → live_at (world_after by.before) copy.source u ≡ Some kept
        → (now : StandsBy its_job (world_after until) copy.destination u) × IsFront (processed_of f c items u (world_after by.before).log) now.front

  -- what is known of a message of a copy of units, by its receiver
  module _ (cs : List Choice) (log : List Note) where
    abbrev pub Of : ℕ → (UnitCopy → Type 0) → Type 0
    Of op P = (copy : UnitCopy) → copy.op ≡ op → IsOrdered c items copy → P copy

    abbrev pub Told : ℕ → ℕ → Msg → Type 0
    Told s r (Msg.Get op filter) = Of op (λ copy. (filter ≡ copy.filter) × (r ≡ instance_node copy.source) × (is_begun op log ≡ true))
    Told s r (Msg.Chunks op chunks) = Of op (λ copy. AreGiven cs log copy chunks)
    Told s r (Msg.Standby op chunks) = Of op (λ copy. (r ≡ instance_node copy.destination) × AreGiven cs log copy chunks)
    Told s r (Msg.Kept op) = Of op (λ copy. WasKept cs log copy)
    Told s r (Msg.GetAll op) = Of op (λ copy. ⊥)
    Told s r (Msg.AllChunk op chunk) = Of op (λ copy. ⊥)
    Told s r (Msg.PutAll op chunk) = Of op (λ copy. ⊥)
    Told s r m = Prim.Unit {0}

  -- One choice and its notes further.
  module _ (cs : List Choice) (d : Choice) (log notes : List Note) where
    abbrev later_on : List Choice
    later_on = cs ++ d ∷ []

    abbrev more : List Note
    more = log ++ notes

    pub further : (xs ys : List Choice) → xs ++ ys ≡ cs → xs ++ (ys ++ d ∷ []) ≡ later_on
    further xs ys e = sym (append_assoc xs ys (d ∷ [])) ∙ ap (λ zs. zs ++ d ∷ []) e

    unfoldable pub given_still : (copy : UnitCopy) → HasGiven cs log copy → HasGiven later_on more copy
    given_still copy h = record {
      before = h.before;
      later = h.later ++ d ∷ [];
      whole = further h.before h.later h.whole;
      to_give = h.to_give;
      rest = h.rest ++ notes;
      log_is = ap (λ l. l ++ notes) h.log_is ∙ append_assoc (world_after h.before).log h.rest notes;
      given = h.given;
      given_is = exported_kept copy.op log notes h.given h.given_is;
      gave = before_export_kept copy.op log notes h.given h.given_is ∙ h.gave;
    }

    pub chunks_still : (copy : UnitCopy) (chunks : List Chunk) → AreGiven cs log copy chunks → AreGiven later_on more copy chunks
    unfolding given_still
    chunks_still copy chunks h = record { by = given_still copy h.by; bring = h.bring }

    pub kept_still : (copy : UnitCopy) → WasKept cs log copy → WasKept later_on more copy
    unfolding given_still
    kept_still copy h =
        record { by = given_still copy h.by; until = h.until; since = h.since ++ d ∷ []; whole = further h.until h.since h.whole; stood = h.stood }

    pub told_still : (s r : ℕ) (m : Msg) → Told cs log s r m → Told later_on more s r m
    told_still s r (Msg.Get op filter) h = λ copy same of. (let it = h copy same of in (it.0, it.1, began_kept f c items start op log notes it.2))
    told_still s r (Msg.Chunks op chunks) h = λ copy same of. chunks_still copy chunks (h copy same of)
    told_still s r (Msg.Standby op chunks) h = λ copy same of. (let it = h copy same of in (it.0, chunks_still copy chunks it.1))
    told_still s r (Msg.Kept op) h = λ copy same of. kept_still copy (h copy same of)
    told_still s r (Msg.GetAll op) h = h
    told_still s r (Msg.AllChunk op chunk) h = h
    told_still s r (Msg.PutAll op chunk) h = h
    told_still s r m h = tt

    each_still : (s r : ℕ) (ms : List Msg) → Each (Told cs log s r) ms → Each (Told later_on more s r) ms
    each_still s r [] h = tt
    each_still s r (m ∷ ms) h = (told_still s r m h.0, each_still s r ms h.1)

    pub links_still : (w : Network (Node F R) Msg Note) → OnLinks (Told cs log) w → OnLinks (Told later_on more) w
    links_still w h s r hs hr = each_still s r _ (h s r hs hr)
