-- The state of the search as code keeps it: what each variable stands for, the next variable of its class, and each clause's count.
use Rattle.std.specs.Prelude.{ℕ, get_or, set}
use Rattle.theory.specs.State.{State}
use Rattle.state.specs.State.{state_of}
use Rattle.tally.specs.declared.Tally.{Tally}

-- the state of propagation that it stands for
abbrev pub state_in : Tally → State
state_in st = state_of st.values

abbrev pub value_in : Tally → ℕ → ℕ
value_in st p = get_or st.values p 0

abbrev pub link_in : Tally → ℕ → ℕ
link_in st p = get_or st.links p 0

abbrev pub count_in : Tally → ℕ → ℕ
count_in st g = get_or st.counts g 0

-- one part written
abbrev pub with_value : ℕ → ℕ → Tally → Tally
with_value p v t = record { values = set t.values p v; links = t.links; counts = t.counts }

abbrev pub with_link : ℕ → ℕ → Tally → Tally
with_link p q t = record { values = t.values; links = set t.links p q; counts = t.counts }

abbrev pub with_count : ℕ → ℕ → Tally → Tally
with_count g c t = record { values = t.values; links = t.links; counts = set t.counts g c }
