use Rattle.std.proofs.Common.{◌≡◌, [], ◌∷◌, ◌++◌, take, sym, ap, ◌∙◌, rules}
use Rattle.trail.proofs.Trails.{take_front}
use Rattle.trail.proofs.last.Goals as goal

pub returns : goal.returns
returns g c =
    let xs = c.args.places.now in
    let front = c.in_ok-x.front.now in
    let x = c.in_ok-x.x.now in
    let ends : take c.args.len xs ≡ front ++ (x ∷ []) = search rules in
    ends ∙ ap (λ ys. ys ++ (x ∷ [])) (sym (take_front xs front c.args.len x ends))
