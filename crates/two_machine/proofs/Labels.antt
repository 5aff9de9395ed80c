-- Which messages stand on which link, and where chunks come from.
use Rattle.std.proofs.Common.{◌≡◌}
use Rattle.two_machine.proofs.Tables.{System, Msg, In_packet, In_start, In_end, Start, End, Copied, Laid, Forward, Lay, Finish, Carry, Pass, Stop, Enable}
use Rattle.two_machine.proofs.Tables.{Get, Delete, Restore, Fence, Enabled, Chunks, Deleted, Restored, Event, Seen, Fenced, Final, Credit}
use Rattle.two_machine.proofs.View.{World}
use Rattle.two_machine.proofs.Places.{Place, In, Cs, Aw, Bw, Sc, Ac, Bc, Sa, Ca, Sb, Cb, waits}
use Rattle.actor_net.proofs.WeightLaws.{Each}

module _ {U T C R O : Type 0} (S : System U T C R O) where
  -- chunks are those of a table
  abbrev pub IsSelected : C → Type 0
  IsSelected c = (t : T) × (c ≡ S.select t)

  abbrev pub OnBack : Msg C → Type 0
  OnBack (Credit p) = Unit {0}
  OnBack m = ⊥

  -- what may stand at a place
  abbrev pub Label : Place → Msg C → Type 0
  Label In (In_packet p) = Unit {0}
  Label In In_start = Unit {0}
  Label In In_end = Unit {0}
  Label Sa (Carry p) = Unit {0}
  Label Sa Stop = Unit {0}
  Label Sb (Carry p) = Unit {0}
  Label Sb (Pass p) = Unit {0}
  Label Sb Stop = Unit {0}
  Label Sc Start = Unit {0}
  Label Sc End = Unit {0}
  Label Sc (Copied p) = Unit {0}
  Label Sc (Laid high) = Unit {0}
  Label Cs (Forward p) = Unit {0}
  Label Cs (Lay high) = Unit {0}
  Label Cs (Finish to) = Unit {0}
  Label Ca (Enable r) = Unit {0}
  Label Ca Get = Unit {0}
  Label Ca (Delete c) = IsSelected c
  Label Cb (Enable r) = Unit {0}
  Label Cb (Restore c) = IsSelected c
  Label Cb Fence = Unit {0}
  Label Ac Enabled = Unit {0}
  Label Ac (Chunks c) = IsSelected c
  Label Ac Deleted = Unit {0}
  Label Ac (Event p) = Unit {0}
  Label Ac Final = Unit {0}
  Label Bc Restored = Unit {0}
  Label Bc Enabled = Unit {0}
  Label Bc Fenced = Unit {0}
  Label Bc (Seen p) = Unit {0}
  Label Bc Final = Unit {0}
  Label Aw m = OnBack m
  Label Bw m = OnBack m
  Label pl m = ⊥

  -- each message is one of its place
  pub record Labels (v : World T C O) : Type 0 where
    pub standing : (pl : Place) → Each (Label pl) (waits S pl v)
    pub kept : IsSelected v.ct.kept
