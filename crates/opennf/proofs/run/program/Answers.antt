-- What is done is what the arguments ask for; where no memory was left for them, it holds of any.
use Rattle.std.proofs.Common.{rules, ◌≡◌, [], map, ap}
use Rattle.std.specs.Prelude.{string_bytes, unwrap_or}
use Rattle.command_words.specs.Requests.{request_of}
use Rattle.opennf.proofs.run.program.Goals as goal

pub returns-in-Ok : goal.returns-in-Ok
returns-in-Ok g c =
    let is : c.as_slice.result.now ≡ c.in-Ok.words.items = search rules in
    record { words = map string_bytes c.in-Ok.words.items; are = c.in-Ok.ensures; holds = rw (← is) c.run.ensures }

pub returns-in-Err : goal.returns-in-Err
returns-in-Err g c =
    let words = unwrap_or (g.O.Process.given c.args.outside.now) [] in
    record { words = words; are = λ told is. ap (λ given. unwrap_or given []) is; holds = c.refuse.ensures (request_of words) }
