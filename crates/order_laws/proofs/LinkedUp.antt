-- Over the frames of a path no block is refused first for its link.
use Rattle.std.proofs.Common.{◌≡◌, ℕ, ◌<◌, ◌≤◌, List, [], ◌∷◌, ◌++◌, length, map, refl, sym, ap, ◌∙◌, subst, inl, inr, ◌⊎◌, append-nil}
use Rattle.std.specs.List.{AllByRecursion}
use Rattle.std.proofs.lemmas.Bool.{cases_lt}
use Rattle.uo_base.specs.declared.event.Net.{Net}
use Rattle.uo_base.specs.FeedEvent.{FeedEvent}
use Rattle.feed_frame.specs.Events.{events_of}
use Rattle.feed_frame.specs.FeedText.{event_text, feed_text, HasFrames}
use Rattle.feed_frame.proofs.CutFeedLaws.{feed_cut}
use Rattle.feed_frame.proofs.FeedBytes.{events_bytes}
use Rattle.feed_frame.proofs.FeedTextLaws.{feed_read}
use Rattle.feed_frame.proofs.Rewritten.{rewritten}
use Rattle.node_rules.specs.Judging.{Rules}
use Rattle.node_rules.specs.Machine.{start, event_in, own_judge, verdicts}
use Rattle.compact_node.specs.Node.{fresh_node}
use Rattle.compact_node.specs.Throughout.{verdicts_on}
use Rattle.chain_order.specs.Arrivals.{Arrival}
use Rattle.chain_order.specs.Path.{no_hash, AreLinked}
use Rattle.order_run.specs.Machine.{path_text}
use Rattle.order_laws.specs.Links.{first_refusal, LinksUp, OrderedLinksUp}
use Rattle.order_laws.proofs.Arrived.{IsRead, path_read}
use Rattle.order_laws.proofs.Linking.{block_event, IsRest, links_followed, links_proved}
use Rattle.order_laws.proofs.Others.{IsOther}

-- what the frames of a path are read as: its blocks, or the first of them and maybe a stray
record IsReadAs (net : Net) (limit : ℕ) (path : List Arrival) : Type 0 where
  events : List FeedEvent
  behind : List FeedEvent
  strays : List FeedEvent
  all : (events_of net limit (path_text net path)).events ≡ events ++ strays
  split : map block_event path ≡ events ++ behind
  rest : IsRest strays

same_text : (net : Net) (path : List Arrival) → path_text net path ≡ feed_text net (map block_event path)
unfolding event_text
same_text net [] = refl
same_text net (a ∷ path) = ap (λ l. event_text net (block_event a) ++ l) (same_text net path)

frames_are : (path : List Arrival) → AllByRecursion IsRead path → AllByRecursion HasFrames (map block_event path)
frames_are [] are = tt
frames_are (a ∷ path) are = ((are.0.body.1, tt), frames_are path are.1)

read_as : (net : Net) (limit : ℕ) (path : List Arrival) → AllByRecursion IsRead path → IsReadAs net limit path
read_as net limit path are = by (cases_lt limit (length (feed_text net (map block_event path))))
  where
    by : (limit < length (feed_text net (map block_event path))) ⊎ (length (feed_text net (map block_event path)) ≤ limit) → IsReadAs net limit path
    by (inl past) =
        let cut = feed_cut net limit (map block_event path) (frames_are path are) past in
        record {
          events = cut.front;
          behind = cut.later;
          strays = cut.strays;
          all = ap (λ t. (events_of net limit t).events) (same_text net path)
              ∙ cut.all;
          split = cut.split;
          rest = cut.one;
        }
    by (inr short) =
        let whole = feed_read net limit (map block_event path) (frames_are path are) short in
        record {
          events = map block_event path;
          behind = [];
          strays = [];
          all = ap (λ t. (events_of net limit t).events) (same_text net path) ∙ whole.all ∙ sym (append-nil (map block_event path));
          split = sym (append-nil (map block_event path));
          rest = inl refl;
        }

-- so it is over blocks of which each names the one before it
links_of : (net : Net) (path : List Arrival) → AreLinked no_hash path → AllByRecursion IsRead path → LinksUp net (path_text net path)
links_of net path linked are = record {
  followed = λ H limits scripts.
      let r = read_as net limits.bytes path are in
      subst (λ es. IsOther (first_refusal (verdicts_on H (fresh_node net limits scripts) (map event_in es)))) (sym r.all)
      (links_followed H path (fresh_node net limits scripts) r.events r.strays linked are r.behind r.split r.rest);
  proved = λ limits.
      let r = read_as net limits.bytes path are in
      let rules : Rules = record { net = net; limits = limits } in
      subst (λ es. IsOther (first_refusal (verdicts rules own_judge start (map event_in es)))) (sym r.all)
      (links_proved rules path start r.events r.strays linked are r.behind r.split r.rest);
}

pub linked_up : OrderedLinksUp
linked_up net limit feed tip path bytes p =
    links_of net path p.linked (path_read (events_of net limit feed).events path (events_bytes net limit feed bytes)
    (rewritten net limit feed bytes).events p.arrived)

-- and over nothing
pub none_links : (net : Net) → LinksUp net []
none_links net = links_of net [] tt tt
