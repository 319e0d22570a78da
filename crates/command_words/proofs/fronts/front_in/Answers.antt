use Rattle.std.proofs.Common.{sym, ap, ◌∙◌}
use Rattle.std.specs.String.{string_bytes}
use Rattle.command_words.specs.Words.{command_of}
use Rattle.command_words.proofs.WordLaws.{by_first}
use Rattle.command_words.proofs.fronts.front_in.Goals as goal

pub returns-in-follow : goal.returns-in-follow
unfolding command_of
returns-in-follow c =
    let name = sym (c.as_str.ensures.value ∙ ap string_bytes c.name-item.is) ∙ c.in-follow.is in
    c.split.ensures ∙ sym (by_first string_bytes c.args.words.now _ _ c.in-len1-up.len_at_least name)

pub returns-in-prove : goal.returns-in-prove
unfolding command_of
returns-in-prove c =
    let name = sym (c.as_str.ensures.value ∙ ap string_bytes c.name-item.is) ∙ c.in-prove.is in
    c.split-in-prove.ensures ∙ sym (by_first string_bytes c.args.words.now _ _ c.in-len1-up.len_at_least name)

pub returns-in-audit : goal.returns-in-audit
unfolding command_of
returns-in-audit c =
    let name = sym (c.as_str.ensures.value ∙ ap string_bytes c.name-item.is) ∙ c.in-audit.is in
    c.split-in-audit.ensures ∙ sym (by_first string_bytes c.args.words.now _ _ c.in-len1-up.len_at_least name)

pub returns-in-gen : goal.returns-in-gen
unfolding command_of
returns-in-gen c =
    let name = sym (c.as_str.ensures.value ∙ ap string_bytes c.name-item.is) ∙ c.in-gen.is in
    c.behind_gen.ensures ∙ sym (by_first string_bytes c.args.words.now _ _ c.in-len1-up.len_at_least name)

pub returns-in-upgrade : goal.returns-in-upgrade
unfolding command_of
returns-in-upgrade c =
    let name = sym (c.as_str.ensures.value ∙ ap string_bytes c.name-item.is) ∙ c.in-upgrade.is in
    c.behind_upgrade.ensures ∙ sym (by_first string_bytes c.args.words.now _ _ c.in-len1-up.len_at_least name)

pub returns-in-order : goal.returns-in-order
unfolding command_of
returns-in-order c =
    let name = sym (c.as_str.ensures.value ∙ ap string_bytes c.name-item.is) ∙ c.in-order.is in
    c.behind_order.ensures ∙ sym (by_first string_bytes c.args.words.now _ _ c.in-len1-up.len_at_least name)

pub returns-in-ticket : goal.returns-in-ticket
unfolding command_of
returns-in-ticket c =
    let name = sym (c.as_str.ensures.value ∙ ap string_bytes c.name-item.is) ∙ c.in-ticket.is in
    c.behind_ticket.ensures ∙ sym (by_first string_bytes c.args.words.now _ _ c.in-len1-up.len_at_least name)

pub returns-in-check : goal.returns-in-check
unfolding command_of
returns-in-check c =
    let name = sym (c.as_str.ensures.value ∙ ap string_bytes c.name-item.is) ∙ c.in-check.is in
    c.split-in-check.ensures ∙ sym (by_first string_bytes c.args.words.now _ _ c.in-len1-up.len_at_least name)

pub returns-in-recheck : goal.returns-in-recheck
unfolding command_of
returns-in-recheck c =
    let name = sym (c.as_str.ensures.value ∙ ap string_bytes c.name-item.is) ∙ c.in-recheck.is in
    c.split-in-recheck.ensures ∙ sym (by_first string_bytes c.args.words.now _ _ c.in-len1-up.len_at_least name)

pub returns-in-relay : goal.returns-in-relay
unfolding command_of
returns-in-relay c =
    let name = sym (c.as_str.ensures.value ∙ ap string_bytes c.name-item.is) ∙ c.in-relay.is in
    c.behind_relay.ensures ∙ sym (by_first string_bytes c.args.words.now _ _ c.in-len1-up.len_at_least name)
