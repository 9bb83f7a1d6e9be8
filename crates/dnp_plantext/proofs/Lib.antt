mod PlanLists
mod PlanNamed
