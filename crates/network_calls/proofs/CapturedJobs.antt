-- The packets of a capture, and what the words say, are an update, and can be shared.
use Rattle.network_calls.proofs.Words.{◌<◌, length, refl, arith, ◌≡◌, ℕ, ◌+◌, List, [], ◌∷◌, map, ap, ◌∙◌, AreNumbered, published_view, strong_view}
use Rattle.network_calls.proofs.Words.{are_steered, IsUpdateJob, scene_of, update_for, Packet, sharing_for, sharing_scene}
use Rattle.std.proofs.Common.{◌^◌}
use Rattle.flow_filter.specs.Filter.{IsFilter}
use Rattle.trace_reader.specs.declared.trace.Trace.{Trace as Captured}
use Rattle.command_words.specs.declared.request.Publishing.{Publishing}
use Rattle.command_words.specs.Requests.{StrongAsked}
use Rattle.call_files.specs.run_input.proofs.ScriptedOrders.{numbers_rise}
use Rattle.std.specs.List.{range_with_len}
use Rattle.command_words.specs.declared.request.StrongRequest.{StrongRequest}
use Rattle.strong_share.specs.Start.{job_of}
use Rattle.call_files.specs.CaptureScenes.{CaptureScene}
use Rattle.network_calls.specs.RunSteps.{AreRead, CanShare}

-- the packets of a capture, and what the words say, are an update
pub is_update : (asked : Publishing) (captured : Captured) → asked.site.inside.bits < 2 ^ 32 → IsFilter asked.filter → AreRead captured.packets
    → IsUpdateJob asked.kind (update_for (published_view asked) (scene_of asked captured))
is_update asked captured site filter read = record {
  window = asked.window_in_range;
  site = site;
  filter = record { numbers = filter; whole = asked.whole };
  steered = are_steered asked.site captured.packets site read.steered read.in_range;
  numbers = numbers_rise 1 1 captured.packets (omega arith) read.numbers;
  few = read.few;
}

-- packets that are numbered in order have the numbers from the first on
numbers_from : (n : ℕ) (ps : List Packet) → AreNumbered n ps → map (λ (p : Packet). p.number) ps ≡ range_with_len n (length ps)
numbers_from n [] h = refl
numbers_from n (p ∷ ps) h =
    ap (λ k. k ∷ map (λ (q : Packet). q.number) ps) h.0 ∙ ap (λ ks. n ∷ ks) (numbers_from (n + 1) ps h.1)

-- the packets of a capture, and what the words say, can be shared
pub can_share : (asked : StrongRequest) (captured : Captured) → asked.site.inside.bits < 2 ^ 32 → IsFilter asked.filter → AreRead captured.packets
    → CanShare (strong_view asked) (sharing_scene asked captured)
can_share asked captured site filter read = record {
  job = record {
    some = asked.some;
    few = asked.few;
    window = asked.window_in_range;
    site = site;
    filter = record { numbers = filter; whole = asked.whole };
    steered = are_steered asked.site captured.packets site read.steered read.in_range;
    numbers = numbers_from 1 captured.packets read.numbers;
  };
  few = read.few;
}

-- the sharing by so many members as the words name
pub same_sharing : (s : StrongAsked) (scene : CaptureScene) (members : ℕ) → members ≡ length s.names
    → job_of scene.site s.window members scene.filter scene.captured.packets ≡ sharing_for s scene
same_sharing s scene members same = ap (λ (n : ℕ). job_of scene.site s.window n scene.filter scene.captured.packets) same
