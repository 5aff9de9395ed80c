-- The theorem of a two-phase update, of every run from a start.
use Rattle.two_machine.proofs.Words.{◌<◌, ℕ, List, ◌++◌, arith, Choice, Network, Rises, System, Laws, Msg, Note, Node}
use Rattle.two_machine.proofs.Promises.{LeadsTo, Published}
use Rattle.two_machine.proofs.EveryRun.{every}
use Rattle.two_machine.proofs.CompleteRun.{complete}
use Rattle.two_machine.proofs.NeverStuck.{never_stuck, window_stays}
use Rattle.two_machine.proofs.RunLengths.{bound}

module _ {U T C R O : Type 0} (S : System U T C R O) (laws : Laws S) (window : ℕ) (early late : List ℕ) (some : 0 < window)
    (rises : Rises 0 (early ++ late)) where
  pub published : (cs : List Choice) (w : Network (Node T C) (Msg C) (Note O)) → LeadsTo S window early late cs w → Published S window early late cs w
  published cs w leads = record {
    every = every S laws window early late rises cs w leads;
    ends =
        record {
          short = let less = bound S laws window early late rises cs leads.is_run in omega (arith, less);
          goes_on = never_stuck S laws window early late some rises cs w leads;
          window_is = window_stays S laws window early late some rises cs w leads;
        };
    complete = complete S laws window early late rises cs w leads;
  }
