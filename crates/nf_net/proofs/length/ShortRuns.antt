-- A run of a short input has fewer choices than a schedule may take.
use Rattle.nf_net.proofs.Words.{ℕ, ◌+◌, ◌*◌, ◌<◌, ◌≤◌, List, [], ◌∷◌, length, arith, ◌/◌, Msg, Choice, MOST_CHOICES, commands, lines, pieces_sent, most_pieces}
use Rattle.nf_net.proofs.Words.{most_choices, IsShort, Setting, start, IsCourse}
use Rattle.std.proofs.Math.Nat.{mul-le-mul, div-le_of_le-mul}
use Rattle.net_world.specs.Input.{packets}
use Rattle.nf_net.proofs.length.PieceRuns.{pieces_few}
use Rattle.nf_net.proofs.length.RunLength.{run_length}

-- each command is a line
commands_few : (items : List Msg) → length (commands items) ≤ lines items
commands_few [] = omega arith
commands_few (Msg.InCommand command ∷ items) = let rest = commands_few items in omega (arith, rest)
commands_few (Msg.InSettle ∷ items) = let rest = commands_few items in omega (arith, rest)
commands_few (m ∷ items) = commands_few items

-- few pieces, and few choices
short_pieces : (items : List Msg) → IsShort items → most_pieces items ≤ 15626000
short_pieces items short =
    let parts : length (packets items) / 64 ≤ 15625 = div-le_of_le-mul 64 (omega (arith, short.few_packets)) in
    let orders : length (commands items) ≤ 1000 = omega (arith, short.few_lines, commands_few items) in
    let each : length (packets items) / 64 + 1 ≤ 15626 = omega (arith, parts) in
    let all : most_pieces items ≤ 1000 * 15626 = mul-le-mul orders each in
    omega (arith, all)

short_choices : (n : ℕ) (items : List Msg) (pieces : ℕ) → n ≤ 16 → IsShort items → pieces ≤ 15626000 → most_choices n items pieces < MOST_CHOICES
short_choices n items pieces some short few =
    let many = short.few_packets in
    let told = short.few_lines in
    let for_packet : 2 * n + 6 ≤ 38 = omega (arith, some) in
    let for_line : 4 * n + 24 ≤ 88 = omega (arith, some) in
    let all_packets : (2 * n + 6) * length (packets items) ≤ 38 * 1000000 = mul-le-mul for_packet many in
    let all_lines : (4 * n + 24) * lines items ≤ 88 * 1000 = mul-le-mul for_line told in
    omega (arith, all_packets, all_lines, some, few)

module _ {F R : Type 0} (setting : Setting F R) where
  open setting use {function as f, config as c, items, is_input as is}

  pub short_runs : IsShort items → (cs : List Choice) → IsCourse setting cs → length cs < MOST_CHOICES
  short_runs short cs run_is =
      let least = short_choices (length c.names) items (pieces_sent f (start setting) cs) is.is_config.few short
      (omega (arith, pieces_few setting cs run_is, short_pieces items short)) in
      omega (arith, run_length setting short.ended cs run_is, least)
