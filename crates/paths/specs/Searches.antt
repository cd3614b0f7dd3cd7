-- The walks of a search.
use Rattle.std.specs.Prelude.{ℕ, Bool, List, [], length, slice_index_or}
use Rattle.paths.specs.declared.searching.Search.{Search}
use Rattle.paths.specs.Found.{starting}
use Rattle.paths.specs.Patterns.{items_of}
use Rattle.paths.specs.Roads.{roads_in}
use Rattle.paths.specs.Walks.{Walk, walks, beyond}

-- the position past the last item of its pattern
abbrev pub last_of : Search → ℕ
last_of s = length (items_of s.pattern.now)

-- those from each node
abbrev pub all_walks_of : Search → List Walk
all_walks_of s = starting (items_of s.pattern.now) (roads_in s.roads.now) 0 s.roads.now.nodes

-- those from the node n that avoid the trail v
abbrev pub walks_at : Search → List Bool → ℕ → ℕ → List Walk
walks_at s v n live = walks (items_of s.pattern.now) (roads_in s.roads.now) v n live

-- those that go on from n, already on the trail
abbrev pub walks_past : Search → List Bool → ℕ → ℕ → List Walk
walks_past s v n live = beyond (items_of s.pattern.now) (roads_in s.roads.now) v n live (slice_index_or (roads_in s.roads.now) n [])
