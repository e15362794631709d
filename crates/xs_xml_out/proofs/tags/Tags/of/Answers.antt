use Rattle.std.proofs.Common.{◌∙◌, ap, map, arith}
use Rattle.std.proofs.lemmas.List.{take_all}
use Rattle.xs_xml_out.specs.Tags.{tags_of}
use Rattle.xs_xml_out.proofs.Tagged.{tags_more, tags_back, are_tags}
use Rattle.xs_xml_out.proofs.tags.Tags.of.Goals as goal

pub names-preserved : goal.names-preserved
names-preserved c = c.in_ok-push.ensures.items ∙ tags_more c.args.names.now c.names.all.items c.names.k _ _ c.names.invariant c.name.ensures.found c.in_ok-tags_of.ensures

pub invariant_of-result : goal.invariant_of-result
invariant_of-result c = are_tags c.args.names.now c.names.all.items (c.names.invariant ∙ ap (map tags_of) (take_all c.names.k c.args.names.now (omega arith)))

pub returns : goal.returns
returns c = tags_back c.args.names.now c.names.all.items (c.names.invariant ∙ ap (map tags_of) (take_all c.names.k c.args.names.now (omega arith)))
