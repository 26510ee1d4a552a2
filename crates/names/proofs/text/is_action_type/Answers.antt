use Rattle.std.proofs.Common.{codes, sym, refl, ◌∙◌, inl, inr}
use borrow.Author.Tests.{clash}
use Rattle.std.proofs.lemmas.Slice.Eq.{ends_is, slice_eq-Decides}
use Rattle.names.proofs.text.is_action_type.Goals as goal
use Rattle.std.proofs.lemmas.Bool.Decides.{Decides-eqb}

pub returns-else-eq : goal.returns-else-eq
returns-else-eq c =
    let e = ends_is Decides-eqb c.args.text.now (codes "::Action") c.ends_with.result c.ends_with.ensures.value in
    let d = slice_eq-Decides Decides-eqb c.args.text.now (codes "Action") c.eq.result (let q = c.as_slice.ensures in let r = c.eq.ensures in cc) in (
      λ h. inr (_, e.0 h, refl),
      λ w. elim w [
        | inl p ↦ elim (clash (sym c.if-eq.false ∙ d.1 p.0)) [ ]
        | inr p ↦ e.1 p.0 p.1
      ],
    )
