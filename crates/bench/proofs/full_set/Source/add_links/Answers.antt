use Rattle.std.proofs.Common.{◌≡◌, ℕ, ◌+◌, ◌%◌, ◌<◌, List, [], ◌∷◌, ◌++◌, length, map, take, drop, get_or, sym, ap, ◌∙◌, append_assoc, add-one, drop-cons, length-append, arith, rules}
use Rattle.std.proofs.lemmas.List.{map-append, append-nil}
use Rattle.policy.specs.declared.template.Template.{Template}
use Rattle.policy_set.specs.declared.rows.PolicyRow.{PolicyRow}
use Rattle.policy_set.specs.Maps.{Maps}
use Rattle.policy_set.specs.Meaning.{maps_of}
use Rattle.bench.specs.Growth.{Grows, Links, templates_of, in_turn}
use Rattle.bench.proofs.full_set.Source.add_links.Goals as goal

-- The template whose turn it is.
this_turn : (ts : List Template) (t : Template) (i : ℕ) → i < length ts → t ≡ get_or ts i t → take 1 (drop i ts) ≡ t ∷ []
this_turn ts t i h e = ap (take 1) (drop-cons ts i t h) ∙ ap (λ (x : Template). x ∷ []) (sym e)

more : (before mid after : Maps) (ts : List Template) (t : Template) (i : ℕ) → templates_of mid ≡ templates_of before ++ in_turn ts i
    → Links t mid after → i % length ts < length ts → t ≡ get_or ts (i % length ts) t
    → templates_of after ≡ templates_of before ++ in_turn ts (i + 1)
more before mid after ts t i so l h e =
    ap templates_of l.last
    ∙ (map-append (λ (r : PolicyRow). r.template) mid.policies (l.row ∷ [])
    ∙ (ap (λ (ids : List ℕ). ids ++ l.row.template ∷ []) so
    ∙ (append_assoc (templates_of before) (in_turn ts i) (l.row.template ∷ [])
    ∙ (ap (λ (n : ℕ). templates_of before ++ (in_turn ts i ++ n ∷ [])) l.of_template
    ∙ (ap (λ (us : List Template). templates_of before ++ (in_turn ts i ++ map (λ t. t.id) us)) (sym (this_turn ts t (i % length ts) h e))
    ∙ ap (λ (n : ℕ). templates_of before ++ in_turn ts n) (sym (add-one i)))))))

grown : (before mid after : Maps) (t : Template) (i : ℕ) → Grows before mid 0 i → Links t mid after → Grows before after 0 (i + 1)
grown before mid after t i so l =
    let one : length after.policies ≡ length mid.policies + 1 = ap (λ (m : Maps). length m.policies) l.last ∙ length-append mid.policies (l.row ∷ []) in
    record {
      templates = ap (λ (m : Maps). length m.templates) l.last ∙ so.templates;
      policies = let e = so.policies in omega (arith, one, e);
    }

pub loop-i-init : goal.loop-i-init
loop-i-init c = record { size = search rules; turns = sym (append-nil _) }

pub loop-i-preserved : goal.loop-i-preserved
loop-i-preserved c = record {
  size = grown (maps_of c.args.set.now) (maps_of c.loop-i.set) (maps_of c.add_link.new.set) c.index-slotted-i.result c.loop-i.i c.loop-i.invariant.size c.in_ok-add_link.ensures;
  turns = more (maps_of c.args.set.now) (maps_of c.loop-i.set) (maps_of c.add_link.new.set) c.args.slotted.now c.index-slotted-i.result c.loop-i.i
      c.loop-i.invariant.turns c.in_ok-add_link.ensures (search rules) c.index-slotted-i.is;
}
