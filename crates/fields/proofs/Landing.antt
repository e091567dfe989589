-- A step of the walks by hand: what a call returned is stored by the machine value that it is known to be. Assumes `Logic`.
use mathlib.Core.Path.{◌≡◌, sym, subst}
use mathlib.Core.List.{List}
use seplogic.Ra.Ura.{Ura}
use mir.Syntax.{Place, Body}
use mir.Val.{Val}
use prog.Wp.{Env, Calls, Loops}
use types.Logic.{Logic}
use types.Kit.{Item, Post, Seq, Step, lands, step}

module _ {M : Type 1} {𝓤 : Ura M} {𝓛 : Logic 𝓤} {K : Type 0} {Γ : List (Item 𝓤)}
    {C : Calls 𝓤 𝓛.H} {Λ : Loops 𝓤 𝓛.H} {E : Env 𝓤 𝓛.H} {p : Post 𝓤 𝓛.H} {d : Place} {rest : Body} where
  pub known_as : K → {u v : Val} → u ≡ v → Step K 𝓛 Γ (lands C Λ E d v rest p) Γ (lands C Λ E d u rest p)
  known_as t e = step (λ s. subst (λ (y : Val). Seq K 𝓛 Γ (lands C Λ E d y rest p)) (sym e) s)
