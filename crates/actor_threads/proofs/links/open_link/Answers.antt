-- The two ends of the new link are fresh.
use Rattle.actor_threads.proofs.links.open_link.Goals as goal

pub returns : goal.returns
returns g c = (
  c.in_ok-send.take,
  (
    c.in_ok-push.ensures.items,
    record { link = c.in_ok-send.ensures.link; sent = c.in_ok-send.ensures.done.0; taken = c.in_ok-send.ensures.done.1 },
  ),
)
