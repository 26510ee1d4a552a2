use Rattle.std.proofs.Common.{◌≡◌, ℕ, List, [], ◌∷◌, ◌++◌, length, get_or, set, None, Some, Option, sym, ap, ◌∙◌, subst, rules, arith}
use Rattle.names.specs.Book.{texts}
use Rattle.names.specs.Names.{Limits, distinct}
use Rattle.names.specs.Index.{hash, Indexes}
use Rattle.names.proofs.Names.{distinct_more}
use Rattle.names.proofs.Indexes.{entered}
use Rattle.names.proofs.kept.NameBook.enter.Goals as goal

pub invariant_of-self-clause-distinct : goal.invariant_of-self-clause-distinct
invariant_of-self-clause-distinct c = ap distinct c.push.ensures.kept ∙ distinct_more (texts c.args.self.now) c.args.text.now c.args.self.now.distinct c.requires.absent

pub invariant_of-self-clause-most_places : goal.invariant_of-self-clause-most_places
invariant_of-self-clause-most_places c = omega (arith, ap (λ (l : Limits). l.places) c.push.ensures.limits, c.args.self.now.most_places)

pub invariant_of-self-clause-most_room : goal.invariant_of-self-clause-most_room
invariant_of-self-clause-most_room c = omega (arith, ap (λ (l : Limits). l.room) c.push.ensures.limits, c.args.self.now.most_room)

pub invariant_of-self-clause-indexed : goal.invariant_of-self-clause-indexed
invariant_of-self-clause-indexed c =
    let t = c.args.text.now in
    let ts = texts c.args.self.now in
    let last = c.args.self.now.index.last.items in
    let before = c.args.self.now.index.before.items in
    let h = c.hash.ensures.hash in
    let l : c.push-2.new.self.last.items ≡ set last (hash t) (Some (length ts)) =
    c.push-2.ensures.last ∙ (ap (λ (k : ℕ). set last k (Some c.count-number.result)) h ∙ ap (λ (n : ℕ). set last (hash t) (Some n)) c.count-number.ensures.count) in
    let b : c.push-2.new.self.before.items ≡ before ++ (get_or last (hash t) None ∷ []) =
    c.push-2.ensures.before ∙ ap (λ (k : ℕ). before ++ (get_or last k None ∷ [])) h in
    subst (λ (us : List (List ℕ)). Indexes us c.push-2.new.self.last.items c.push-2.new.self.before.items) (sym c.push.ensures.kept)
    (subst (λ (xs : List (Option ℕ)). Indexes (ts ++ (t ∷ [])) xs c.push-2.new.self.before.items) (sym l)
    (subst (λ (xs : List (Option ℕ)). Indexes (ts ++ (t ∷ [])) (set last (hash t) (Some (length ts))) xs) (sym b)
    (entered ts last before t c.args.self.now.indexed (search rules) (search rules) (omega (arith, h, c.hash.ensures.small)))))
