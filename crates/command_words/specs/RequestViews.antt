-- How contracts see what the words ask for. This project's own.
use Rattle.std.specs.Prelude.{option_map}
use Rattle.flow_filter.specs.FilterText.{fields_of}
use Rattle.flow_filter.specs.Reading.{prefix_numbers}
use Rattle.command_words.specs.declared.request.NetworkRequest.{NetworkRequest}
use Rattle.command_words.specs.declared.request.Checking.{Checking}
use Rattle.command_words.specs.declared.request.Generating.{Generating}
use Rattle.command_words.specs.declared.request.FailRequest.{FailRequest}
use Rattle.command_words.specs.declared.request.Request.{Request}
use Rattle.command_words.specs.declared.request.Request.TheVariants.{Run, Calm}
use Rattle.command_words.specs.declared.request.CalmRequest.{CalmRequest}
use Rattle.command_words.specs.declared.request.CalmRequest.TheVariants.{Sim, Audit, Fail, Check, Gen, Published, Strong}
use Rattle.command_words.specs.Requests.{NetworkAsked, FailAsked, CheckAsked, GenAsked, Asked, asks_sim, asks_run, asks_audit}
use Rattle.command_words.specs.Requests.{asks_fail, asks_check, asks_gen, PublishedAsked, asks_published, StrongAsked, asks_strong}
use Rattle.command_words.specs.declared.request.Publishing.{Publishing}
use Rattle.command_words.specs.declared.request.StrongRequest.{StrongRequest}

abbrev pub network_view : NetworkRequest → NetworkAsked
network_view n = record {
  kind = n.kind;
  instances = n.instances.rows.items;
  inside = prefix_numbers n.site.inside;
  outside = n.site.outside;
  window = n.window;
  journal = option_map (λ t. t.now) n.journal;
  summary = n.summary;
  trace = n.trace.now;
  script = option_map (λ t. t.now) n.script;
}

abbrev pub fail_view : FailRequest → FailAsked
fail_view f = record { network = network_view f.network; failed = f.failed; to = f.to; after = f.after }

abbrev pub check_view : Checking → CheckAsked
check_view c = record { kind = c.kind; instances = c.instances.rows.items; script = c.script.now }

abbrev pub gen_view : Generating → GenAsked
gen_view g = record { number = g.number; packets = g.packets; hosts = g.hosts; trace = g.trace.now }

abbrev pub published_view : Publishing → PublishedAsked
published_view p = record {
  kind = p.kind;
  inside = prefix_numbers p.site.inside;
  outside = p.site.outside;
  window = p.window;
  at = p.at;
  filter = fields_of p.filter;
  trace = p.trace.now;
}

abbrev pub strong_view : StrongRequest → StrongAsked
strong_view s = record {
  kind = s.kind;
  names = s.names;
  inside = prefix_numbers s.site.inside;
  outside = s.site.outside;
  window = s.window;
  filter = fields_of s.filter;
  trace = s.trace.now;
}

abbrev pub calm_view : CalmRequest → Asked
calm_view (Sim n schedule) = asks_sim (network_view n) schedule
calm_view (Audit a) = asks_audit (network_view a.network)
calm_view (Fail f) = asks_fail (fail_view f)
calm_view (Check c) = asks_check (check_view c)
calm_view (Gen g) = asks_gen (gen_view g)
calm_view (Published p schedule) = asks_published (published_view p) schedule
calm_view (Strong s schedule) = asks_strong (strong_view s) schedule

abbrev pub request_view : Request → Asked
request_view (Run n) = asks_run (network_view n)
request_view (Calm c) = calm_view c
