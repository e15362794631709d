use Rattle.std.proofs.Common.{◌≡◌, ◌<◌, length, take}
use Rattle.xs_gram.specs.declared.parts.GItem.TheVariants.{Fixed}
use Rattle.xs_gram.specs.Fences.{IsPlain}
use Rattle.xs_coarse_net.specs.Going.{Goes, Grows}
use Rattle.xs_coarse_net.proofs.leaf.lay_word.Given as goal

abbrev pub invariant-symbols : goal.invariant-symbols
invariant-symbols l = record {
  grows : Grows l.initial.draft l.draft;
  goes : IsPlain l.site.g.now.fences (Fixed (take l.place l.word)) → Goes l.site.labels.now l.draft l.fn.from (take l.place l.word) l.at;
  last : l.place ≡ length l.word → 0 < l.place → l.at ≡ l.to;
}
