-- The stages of a two-phase update: where its one message stands, with the lists of packets around it; the packets that wait there
-- (`path`), and what is known besides (`Fits`).
use Rattle.std.proofs.Common.{◌≡◌, ◌<◌, ℕ, Bool, true, false, Option, Some, None, List, [], ◌∷◌, ◌++◌}
use Rattle.std.specs.Prelude.{is_some}
use Rattle.std.specs.List.{last_or}
use Rattle.two_machine.proofs.Machine.{same}

-- before A has its rule
pub data Early : Type 0 where
  Not_begun : Early
  Enable_goes : Early

-- A hands packets out as events, and the controller stores them
pub data Part : Type 0 where
  Enabled_comes : Part
  Get_goes : Part
  Chunks_come : Part
  Delete_goes : Part
  Deleted_comes : Part
  Restore_goes : Part
  Restored_comes : Part
  Hold_goes : Part
  Held_comes : Part

-- events pass on to B, and no plain packet goes there
pub data Turn : Type 0 where
  Low_goes : Turn
  Low_comes : Turn
  Waits : Turn
  High_goes : Turn
  No_packet_came : Turn

-- plain packets go to B, which holds them
pub data Late : Type 0 where
  High_comes : Late
  Settles : Late

-- the old path is empty
pub data Last : Type 0 where
  Fence_goes : Last
  Fenced_comes : Last
  Is_over : Last

-- what is on the old path: numbers seen last and on their way, passes, forwards, events, plain packets to A
pub record Old : Type 0 where
  pub seen : Option ℕ
  pub seens : List ℕ
  pub passes : List ℕ
  pub forwards : List ℕ
  pub events : List ℕ
  pub sa : List ℕ

-- the numbers of copies on their way, and the last that was taken
pub record Copies : Type 0 where
  pub last : Option ℕ
  pub coming : List ℕ

abbrev pub copying : Option ℕ → List ℕ → Copies
copying t c = record { last = t; coming = c }

-- d: processed; b: whether End came
pub data Stage : Type 0 where
  Before : (n : Early) (d l : List ℕ) (b : Bool) → Stage
  Storing : (n : Part) (d f e l : List ℕ) (b : Bool) → Stage
  Passing : (n : Turn) (d : List ℕ) (s : Option ℕ) (z x g e l : List ℕ) (t : Option ℕ) (c : List ℕ) (b : Bool) → Stage
  Turned : (n : Late) (d : List ℕ) (s : Option ℕ) (z x g e l : List ℕ) (t : Option ℕ) (c h y : List ℕ) (b : Bool) → Stage
  Ends : (n : Last) (d : List ℕ) (s t : Option ℕ) (h y : List ℕ) (b : Bool) → Stage

abbrev pub to_list : Option ℕ → List ℕ
to_list None = []
to_list (Some x) = x ∷ []

abbrev pub old : Option ℕ → List ℕ → List ℕ → List ℕ → List ℕ → List ℕ → Old
old s z x g e l = record { seen = s; seens = z; passes = x; forwards = g; events = e; sa = l }

abbrev pub waits : Old → List ℕ
waits o = o.passes ++ (o.forwards ++ (o.events ++ o.sa))

abbrev pub since_seen : Old → List ℕ
since_seen o = to_list o.seen ++ o.seens

abbrev pub old_path : Old → List ℕ
old_path o = since_seen o ++ waits o

abbrev pub done : Stage → List ℕ
done (Before n d l b) = d
done (Storing n d f e l b) = d
done (Passing n d s z x g e l t c b) = d
done (Turned n d s z x g e l t c h y b) = d
done (Ends n d s t h y b) = d

abbrev pub path : Stage → List ℕ
path (Before n d l b) = l
path (Storing n d f e l b) = f ++ (e ++ l)
path (Passing n d s z x g e l t c b) = waits (old s z x g e l)
path (Turned n d s z x g e l t c h y b) = waits (old s z x g e l) ++ (h ++ y)
path (Ends n d s t h y b) = h ++ y

-- numbers rise
abbrev pub Rises : ℕ → List ℕ → Type 0
Rises n [] = Unit {0}
Rises n (x ∷ xs) = (n < x) × Rises x xs

-- the last copy is that of the last packet on the old path, and the packets that were seen were processed last
pub record Follows (d : List ℕ) (o : Old) (c : Copies) : Type 0 where
  pub front : List ℕ
  pub joined : front ++ since_seen o ≡ d
  pub last : (x : ℕ) → last_or None (to_list c.last ++ c.coming) ≡ Some x → last_or None (old_path o) ≡ Some x

abbrev pub TurnFits : Turn → Copies → Bool → Type 0
TurnFits Low_goes c b = (c.coming ≡ []) × (c.last ≡ None)
TurnFits Low_comes c b = Unit {0}
TurnFits Waits c b = b ≡ false
TurnFits High_goes c b = is_some c.last ≡ true
TurnFits No_packet_came c b = (c.coming ≡ []) × (b ≡ true)

abbrev pub LateFits : Late → Option ℕ → Copies → Type 0
LateFits High_comes seen c = is_some c.last ≡ true
LateFits Settles seen c = (c.coming ≡ []) × (same seen c.last ≡ false) × (is_some c.last ≡ true)

abbrev pub LastFits : Last → List ℕ → Type 0
LastFits Fence_goes h = Unit {0}
LastFits Fenced_comes h = h ≡ []
LastFits Is_over h = h ≡ []

-- the old path with its copies, of which none comes after the end, and what the stage has of its own
pub record PathFits (d : List ℕ) (o : Old) (c : Copies) (b : Bool) (Own : Type 0) : Type 0 where
  pub follows : Follows d o c
  pub none_after : b ≡ true → c.coming ≡ []
  pub own : Own

pub fit : {d : List ℕ} {o : Old} {c : Copies} {b : Bool} {Own : Type 0} → Follows d o c → (b ≡ true → c.coming ≡ []) → Own → PathFits d o c b Own
fit follows none_after own = record { follows = follows; none_after = none_after; own = own }

abbrev pub Fits : Stage → Type 0
Fits (Before n d l b) = Unit {0}
Fits (Storing n d f e l b) = Unit {0}
Fits (Passing n d s z x g e l t c b) = PathFits d (old s z x g e l) (copying t c) b (TurnFits n (copying t c) b)
Fits (Turned n d s z x g e l t c h y b) = PathFits d (old s z x g e l) (copying t c) b (LateFits n s (copying t c))
Fits (Ends n d s t h y b) = LastFits n h
